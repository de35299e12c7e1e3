-- The replies that a client's own view decides: no other client and nothing of the modem has a say in them.
-- Sources: the USB-IF MBIM specification 1.0, sections 9.3 and 9.4, for opening, closing and the errors; libmbim's src/libmbim-glib/mbim-proxy.c for the
-- proxy's own service and for lists of subscriptions. Which error or status stands for which refusal is this proxy's own.
use Rattle.std.specs.Prelude.{ℕ, Bool, false, not, ◌&&◌, ◌==◌, nat_le, nat_lt, bytes_eq, List, length, Option, Some, None, is_none, if◌then◌else◌}
use Rattle.kit_bytes.specs.declared.services.TheConstants.{BASIC_CONNECT}
use Rattle.kit_bytes.specs.Subscriptions.{Pair, normal_form}
use Rattle.mbim_frame.specs.declared.kind.MessageKind.TheVariants.{Open, Close, Command, HostError}
use Rattle.mbim_frame.specs.declared.error.TheConstants.{OUT_OF_SEQUENCE, LENGTH_MISMATCH, NOT_OPENED, UNKNOWN_KIND, TOO_LONG}
use Rattle.mbim_frame.specs.declared.status.TheConstants.{BUSY, NOT_INITIALIZED, INVALID_PARAMETERS}
use Rattle.mbim_frame.specs.Head.{is_kind}
use Rattle.mbim_frame.specs.Bodies.{uuid_of, cid_of, is_set, buffer_of, is_command}
use Rattle.mbim_fragments.specs.Runs.{Joining, More, Whole, OutOfSequence, TooLong}
use Rattle.mbim_fragments.specs.Assembling.{joining_behind}
use Rattle.mbim_proxy.specs.Services.{proxy_control, configuration_cid, subscribe_list_cid}
use Rattle.mbim_services.specs.SubscribeLists.{list_of_buffer}
use Rattle.mbim_proxy.specs.Configuration.{names_device}
use Rattle.mbim_proxy.specs.Setup.{Setup}
use Rattle.mbim_proxy.specs.Known.{Known}

pub data OwnReply : Type 0 where
  -- none
  Silent : OwnReply
  -- a FUNCTION_ERROR with this code
  Wrong : (code : ℕ) → OwnReply
  -- an OPEN_DONE with this status, which refuses
  NotOpened : (status : ℕ) → OwnReply
  -- a CLOSE_DONE
  Closes : OwnReply
  -- ---- COMMAND_DONEs to the command with this body ----
  -- it is refused
  Refuses : (command : List ℕ) → (status : ℕ) → OwnReply
  -- the client named the device
  Configures : (command : List ℕ) → OwnReply
  -- the client has this list of subscriptions from now on
  Subscribes : (command : List ℕ) → (list : List Pair) → OwnReply

-- ---- commands ----

-- a command for the proxy, which never reaches the modem
abbrev pub is_for_proxy : (command : List ℕ) → Bool
is_for_proxy command = bytes_eq (uuid_of command) proxy_control

-- it names this device
abbrev pub configures : Setup → (command : List ℕ) → Bool
configures s command = cid_of command == configuration_cid && is_set command && names_device s.device (buffer_of command)

abbrev pub reply_to_configuration : Setup → (command : List ℕ) → OwnReply
reply_to_configuration s command = if configures s command then Configures command else Refuses command INVALID_PARAMETERS

abbrev pub is_subscribe_list : (command : List ℕ) → Bool
is_subscribe_list command = bytes_eq (uuid_of command) BASIC_CONNECT && cid_of command == subscribe_list_cid

-- the list is in normal form
abbrev pub reply_to_list : Setup → (command : List ℕ) → List Pair → OwnReply
reply_to_list s command list = if nat_lt s.longest_list (length list) then Refuses command INVALID_PARAMETERS else Subscribes command list

abbrev pub reply_to_pairs : Setup → (command : List ℕ) → Option (List Pair) → OwnReply
reply_to_pairs s command None = Refuses command INVALID_PARAMETERS
reply_to_pairs s command (Some pairs) = reply_to_list s command (normal_form pairs)

-- a list can be set, and can't be asked for
abbrev pub reply_to_subscribe_list : Setup → (command : List ℕ) → OwnReply
reply_to_subscribe_list s command = if is_set command then reply_to_pairs s command (list_of_buffer (buffer_of command)) else Refuses command INVALID_PARAMETERS

abbrev pub reply_to_command : Setup → Known → (command : List ℕ) → OwnReply
reply_to_command s known command =
    if not (is_command command) then Wrong LENGTH_MISMATCH
    else if is_for_proxy command then reply_to_configuration s command
    else if not known.opened then Wrong NOT_OPENED
    else reply_to_subscribe_list s command

abbrev pub reply_to_joining : Setup → Known → Joining → OwnReply
reply_to_joining s known OutOfSequence = Wrong OUT_OF_SEQUENCE
reply_to_joining s known TooLong = Wrong TOO_LONG
reply_to_joining s known More = Silent
reply_to_joining s known (Whole command) = reply_to_command s known command

-- ---- opening and closing ----

abbrev pub reply_to_open : Known → OwnReply
reply_to_open known = if not known.configured then NotOpened NOT_INITIALIZED else NotOpened BUSY

abbrev pub reply_to_close : Known → OwnReply
reply_to_close known = if known.opened then Closes else Wrong NOT_OPENED

-- ---- every message ----

-- with its one field behind the head
abbrev pub is_open_request : (message : List ℕ) → Bool
is_open_request m = is_kind Open m && length m == 16

-- a command with both heads
abbrev pub is_command_fragment : (message : List ℕ) → Bool
is_command_fragment m = is_kind Command m && nat_le 20 (length m)

-- the reply where the client's own view decides
abbrev pub own_reply : Setup → Known → (message : List ℕ) → OwnReply
own_reply s known m =
    if is_kind HostError m then Silent
    else if is_kind Open m then (if length m == 16 then reply_to_open known else Wrong LENGTH_MISMATCH)
    else if is_kind Close m then (if length m == 12 then reply_to_close known else Wrong LENGTH_MISMATCH)
    else if not (is_kind Command m) then Wrong UNKNOWN_KIND
    else if nat_lt (length m) 20 then Wrong LENGTH_MISMATCH
    else reply_to_joining s known (joining_behind s.longest_body known.begun m)

-- ---- what all clients share decides ----

-- on a request to open of a client that named the device and has none that waits
abbrev pub may_open : Known → Bool
may_open known = known.configured && is_none known.waits

-- on a command of a client that is open, unless it is for the proxy
abbrev pub is_for_modem : Known → Joining → Bool
is_for_modem known (Whole command) = is_command command && not (is_for_proxy command) && known.opened && not (is_subscribe_list command)
is_for_modem known _ = false

-- the client's own view decides on everything else
abbrev pub view_decides : Setup → Known → (message : List ℕ) → Bool
view_decides s known m =
    not (is_open_request m && may_open known) && not (is_command_fragment m && is_for_modem known (joining_behind s.longest_body known.begun m))
