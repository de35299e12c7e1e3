-- The commands that carry a session's QMI messages.
-- Source: the service QMI in libmbim's data/mbim-service-qmi.json, and the USB-IF MBIM specification 1.0, section 9.3.
use Rattle.std.specs.Prelude.{ℕ, List, []}
use Rattle.mbim_frame.specs.declared.bodies.CommandHead.{CommandHead}
use Rattle.mbim_frame.specs.declared.kind.MessageKind.TheVariants as kind
use Rattle.mbim_frame.specs.Bodies.{command_text}
use Rattle.mbim_frame.specs.Frame.{size_of}
use Rattle.mbim_frame.specs.Kinds.{kind_number}
use Rattle.mbim_fragments.specs.Splitting.{split}
use Rattle.link_session.specs.Waiting.{waiting}
use Rattle.link_session.specs.Asking.{Asked}
use Rattle.device_core.specs.Requests.{Request, message_of}
use Rattle.mbim_session.specs.Requests.{judge_command, longest_sent}
use Rattle.qmi_tunnel.specs.Tunnel.{wrapped}
use Rattle.tunnel_session.specs.declared.request.CarriedRequest.{CarriedRequest}

-- of each of them
abbrev pub head : CommandHead
head = record { uuid = (wrapped []).uuid; cid = (wrapped []).cid; set = (wrapped []).set }

-- the messages of the command that carries a message
unfoldable pub carried_message : (message : List ℕ) → (number : ℕ) → List ℕ
carried_message message number = split (kind_number kind.Command) number longest_sent (command_text head message)

-- what is asked, whose body is lent
abbrev pub request_of : CarriedRequest → Request
request_of request = record { body = request.body.now; cid = request.cid; number = request.number }

-- a request to the QMI modem, in the command with this number, with so many seconds for its answer
abbrev pub carrying : Request → (number seconds : ℕ) → Asked
carrying request number seconds = record { size = size_of; text = carried_message (message_of request) number; wait = waiting (judge_command number) seconds }
