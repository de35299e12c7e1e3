-- A whole command of a client, and a request that goes to the modem.
use Rattle.std.specs.Prelude.{ℕ, true, false, List, ◌++◌, Option, Some, None, if◌then◌else◌}
use Rattle.kit_bytes.specs.declared.services.TheConstants.{BASIC_CONNECT}
use Rattle.kit_bytes.specs.Subscriptions.{Pair}
use Rattle.mbim_frame.specs.declared.kind.MessageKind.TheVariants as kind
use Rattle.mbim_frame.specs.Kinds.{kind_number}
use Rattle.mbim_frame.specs.Bodies.{command_text}
use Rattle.mbim_fragments.specs.Splitting.{split}
use Rattle.mbim_services.specs.SubscribeLists.{list_buffer}
use Rattle.mbim_proxy.specs.Services.{subscribe_list_cid}
use Rattle.mbim_fragments.specs.Runs.{Whole}
use Rattle.number_space.specs.Table.{gives_number}
use Rattle.mbim_proxy.specs.Setup.{Setup, mbim_setup}
use Rattle.mbim_proxy.specs.OwnReplies.{OwnReply, reply_to_command, is_for_modem}
use Rattle.mbim_proxy.specs.Step.{with_reply}
use Rattle.mbim_state.specs.declared.asked.CommandName.{CommandName}
use Rattle.mbim_state.specs.declared.asked.Asked.{Asked}
use Rattle.mbim_state.specs.Core.{Client, client_of, known_by, ModemSide}
use Rattle.mbim_state.specs.Transitions as transitions
use Rattle.mbim_clients.specs.declared.reply.Reply.{Reply}
use Rattle.mbim_clients.specs.Replies.{reply_as}
use Rattle.mbim_clients.specs.Traffic.{Traffic}

-- ---- what the client's own view decides ----

-- a proxy of this device: the replies to a command are those at any time limit
abbrev pub served : (device : List ℕ) → Setup
served device = mbim_setup device 0 false

-- none to a command that is for the modem
abbrev pub own_reply_to : (device : List ℕ) → (command : List ℕ) → Client → Option Reply
own_reply_to device command client = if is_for_modem (known_by client) (Whole command) then None else Some (reply_as (reply_to_command (served device) (known_by client) command))

-- the client with what its own reply changes
abbrev pub replied_with : OwnReply → Client → Client
replied_with reply client = client_of (with_reply reply (known_by client))

abbrev pub left_with : (device : List ℕ) → (command : List ℕ) → Client → Client
left_with device command client = if is_for_modem (known_by client) (Whole command) then client else replied_with (reply_to_command (served device) (known_by client) command) client

-- ---- requests to the modem, under a number where one is given ----

abbrev pub sends : Option ℕ → (conn : ℕ) → Asked → (deadline : ℕ) → (wire : ℕ → List ℕ) → Traffic → Traffic
sends None conn asked deadline wire traffic = traffic
sends (Some number) conn asked deadline wire traffic = record {
  numbers = gives_number (Some number) conn asked deadline traffic.numbers;
  outbox = record traffic.outbox { bytes = traffic.outbox.bytes ++ wire number };
}

-- the proxy's own list, as the modem sees it, and what is kept of the command
abbrev pub list_body : List Pair → List ℕ
list_body list = command_text (record { uuid = BASIC_CONNECT; cid = subscribe_list_cid; set = true }) (list_buffer list)

abbrev pub list_text : List Pair → (number : ℕ) → List ℕ
list_text list number = split (kind_number kind.Command) number 4096 (list_body list)

abbrev pub own_list : CommandName
own_list = record { number = 0; uuid = BASIC_CONNECT; cid = subscribe_list_cid }

abbrev pub opens_under : Setup → Option ℕ → ModemSide → ModemSide
opens_under s None side = side
opens_under s (Some number) side = transitions.opens s number side
