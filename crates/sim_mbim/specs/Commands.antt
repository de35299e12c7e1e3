-- What the modem replies to a whole command.
-- Source: the USB-IF MBIM specification 1.0, MBIM_COMMAND_MSG (section 9.3.3) and MBIM_COMMAND_DONE (section 9.4.3).
use Rattle.std.specs.Prelude.{ℕ, Bool, bytes_eq, ◌&&◌, ◌==◌, List, [], Option, Some, None, Result, Ok, Err, option_map, option_and_then, unwrap_or, if◌then◌else◌}
use Rattle.mbim_frame.specs.declared.bodies.CommandHead.{CommandHead}
use Rattle.mbim_frame.specs.declared.status.TheConstants.{SUCCESS, NO_DEVICE_SUPPORT, INVALID_PARAMETERS}
use Rattle.mbim_fields.specs.Layout.{Layout}
use Rattle.mbim_fields.specs.Value.{Value}
use Rattle.mbim_fields.specs.Reading.{Read, read}
use Rattle.mbim_fields.specs.Canon.{canon}
use Rattle.mbim_services.specs.Table as table
use Rattle.mbim_services.specs.Table.{layout_for}
use Rattle.mbim_services.specs.declared.table.Way.{Way}
use Rattle.mbim_services.specs.declared.table.Way.TheVariants.{Query, Set, Done}
use Rattle.sim_mbim.specs.Modem.{Modem, Outcome, becomes, unchanged}
use Rattle.sim_mbim.specs.BasicConnect as basic_connect
use Rattle.sim_mbim.specs.Sms as sms
use Rattle.sim_mbim.specs.Ussd as ussd
use Rattle.sim_mbim.specs.Phonebook as phonebook

-- ---- by service ----

abbrev pub answer_to_query : (service : List ℕ) → (cid : ℕ) → List Value → Modem → Option (List Value)
answer_to_query service cid asked m =
    if bytes_eq service table.basic_connect then basic_connect.answer_to_query cid asked m
    else if bytes_eq service table.sms then sms.answer_to_query cid asked m
    else if bytes_eq service table.phonebook then phonebook.answer_to_query cid asked m
    else None

-- what names a device to a proxy is heard, and means nothing here
abbrev pub answer_to_set : (service : List ℕ) → (cid : ℕ) → List Value → Modem → Option Outcome
answer_to_set service cid asked m =
    if bytes_eq service table.basic_connect then basic_connect.answer_to_set cid asked m
    else if bytes_eq service table.sms then sms.answer_to_set cid asked m
    else if bytes_eq service table.ussd then unchanged m (ussd.answer_to_set cid asked)
    else if bytes_eq service table.phonebook then phonebook.answer_to_set cid asked m
    else becomes m []

-- what a command of the table comes to, by the values of its fields; None where they have no meaning
abbrev pub outcome : CommandHead → List Value → Modem → Option Outcome
outcome head asked m =
    if head.set then answer_to_set head.uuid head.cid asked m
    else unchanged m (answer_to_query head.uuid head.cid asked m)

-- ---- the reply ----

pub record Reply : Type 0 where
  pub status : ℕ
  -- of the answer
  pub buffer : List ℕ
  pub modem : Modem

-- nothing changes
abbrev pub refused : (status : ℕ) → Modem → Reply
refused status m = record { status = status; buffer = []; modem = m }

-- the one encoding of values in the layout of the command's answers
abbrev pub encoded : CommandHead → List Value → List ℕ
encoded head values = unwrap_or (option_and_then (λ layout. canon layout values) (layout_for head.uuid head.cid Done)) []

abbrev pub replied : CommandHead → Modem → Option Outcome → Reply
replied head m None = refused INVALID_PARAMETERS m
replied head m (Some outcome) = record { status = SUCCESS; buffer = encoded head outcome.values; modem = outcome.modem }

abbrev pub reply_to_values : CommandHead → Modem → Read (List Value) → Reply
reply_to_values head m (Err fault) = refused INVALID_PARAMETERS m
reply_to_values head m (Ok values) = replied head m (outcome head values m)

abbrev pub reply_in : CommandHead → (buffer : List ℕ) → Modem → Option Layout → Reply
reply_in head buffer m None = refused NO_DEVICE_SUPPORT m
reply_in head buffer m (Some layout) = reply_to_values head m (read layout buffer)

abbrev pub way : (set : Bool) → Way
way set = if set then Set else Query

-- the set of the list to which the host listens
abbrev pub is_list_set : CommandHead → Bool
is_list_set head = head.set && bytes_eq head.uuid table.basic_connect && head.cid == table.subscribe_list.cid

-- a list is read pair by pair, since few bytes may spell many: they are those of the layout's fields
abbrev pub reply_to : CommandHead → (buffer : List ℕ) → Modem → Reply
reply_to head buffer m =
    if is_list_set head then replied head m (basic_connect.set_list buffer m)
    else reply_in head buffer m (layout_for head.uuid head.cid (way head.set))
