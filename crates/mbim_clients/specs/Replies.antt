-- The replies to a client's message.
use Rattle.std.specs.Prelude.{◌≡◌, ℕ, true, List, [], Option, Some, None}
use Rattle.outbox.specs.Queue.{Queue, has_room, queues}
use Rattle.connections.specs.Hearing.{Hearing}
use Rattle.mbim_services.specs.SubscribeLists.{list_buffer}
use Rattle.mbim_frame.specs.declared.bodies.DoneHead.{DoneHead}
use Rattle.mbim_frame.specs.declared.kind.MessageKind.TheVariants as kind
use Rattle.mbim_frame.specs.declared.status.TheConstants.{SUCCESS}
use Rattle.mbim_frame.specs.Kinds.{kind_number}
use Rattle.mbim_frame.specs.Head.{number_of}
use Rattle.mbim_frame.specs.Bodies.{uuid_of, cid_of, done_text}
use Rattle.mbim_frame.specs.Writing.{open_done, close_done, function_error}
use Rattle.mbim_fragments.specs.Splitting.{split}
use Rattle.mbim_proxy.specs.OwnReplies as own
use Rattle.mbim_proxy.specs.OwnReplies.{OwnReply}
use Rattle.mbim_state.specs.Core.{Client, ModemSide, setup_of}
use Rattle.mbim_state.specs.Transitions.{hear_client}
use Rattle.mbim_clients.specs.declared.reply.Reply.{Reply}
use Rattle.mbim_clients.specs.declared.reply.Reply.TheVariants.{Silent, Error, Opened, Closed, Done, Listed}

-- the answer to the command with this body
abbrev pub done_head_to : (command : List ℕ) → (status : ℕ) → DoneHead
done_head_to command status = record { uuid = uuid_of command; cid = cid_of command; status = status }

-- the reply that the client's own view decides
abbrev pub reply_as : OwnReply → Reply
reply_as own.Silent = Silent
reply_as (own.Wrong code) = Error code
reply_as (own.NotOpened status) = Opened status
reply_as own.Closes = Closed
reply_as (own.Refuses command status) = Done (done_head_to command status)
reply_as (own.Configures command) = Done (done_head_to command SUCCESS)
reply_as (own.Subscribes command list) = Listed (done_head_to command SUCCESS)

-- an answer in fragments of the client's length
abbrev pub done_for : Client → (number : ℕ) → DoneHead → (buffer : List ℕ) → List ℕ
done_for client number head buffer = split (kind_number kind.CommandDone) number client.fragment (done_text head buffer)

-- its bytes, for the client as the message leaves it
abbrev pub reply_text : Client → (number : ℕ) → Reply → List ℕ
reply_text client number Silent = []
reply_text client number (Error code) = function_error number code
reply_text client number (Opened status) = open_done number status
reply_text client number Closed = close_done number SUCCESS
reply_text client number (Done head) = done_for client number head []
reply_text client number (Listed head) = done_for client number head (list_buffer client.list)

-- the client gets these bytes
abbrev pub says : (bytes : List ℕ) → Client → Queue → ModemSide → Hearing Client ModemSide
says bytes client outbox side = record { client = client; outbox = queues bytes outbox; beside = side; has_room = has_room bytes outbox }

-- a message was heard, with this client and this side from here on: it has a reply, or a request went to the modem for it
abbrev pub heard_with : (number : ℕ) → Option Reply → Client → Queue → ModemSide → Hearing Client ModemSide
heard_with number (Some reply) client outbox side = says (reply_text client number reply) client outbox side
heard_with number None client outbox side = record { client = client; outbox = outbox; beside = side; has_room = true }

-- that is how the message is heard, whatever waits for the client
pub record IsHeard (conn : ℕ) (message : List ℕ) (client : Client) (side : ModemSide) (reply : Option Reply) (client_after : Client) (side_after : ModemSide) : Type 0 where
  pub heard : (outbox : Queue) → hear_client (setup_of side) conn message client outbox side ≡ heard_with (number_of message) reply client_after outbox side_after
