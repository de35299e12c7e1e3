-- The whole message of a request, and which message answers it.
use Rattle.std.specs.Prelude.{ℕ, Bool, ◌==◌, ◌&&◌, if◌then◌else◌, List}
use Rattle.tlv_codec.specs.Tlv.{tlv_text}
use Rattle.qmux_frame.specs.declared.kind.MessageKind.TheVariants as kind
use Rattle.qmux_frame.specs.declared.writing.NewMessage.{NewMessage}
use Rattle.qmux_frame.specs.declared.writing.Sender.TheVariants.{Host}
use Rattle.qmux_frame.specs.Head.{service_of, cid_of, number_of}
use Rattle.qmux_frame.specs.Kind.{flags_for, is_response, kind_of}
use Rattle.qmux_frame.specs.Writing.{message_text}
use Rattle.qmi_requests.specs.declared.QmiRequest.{QmiRequest}
use Rattle.qmux_frame.specs.Frame.{size_of}
use Rattle.link_session.specs.Waiting.{Judge, waiting}
use Rattle.link_session.specs.Asking.{Asked}
use Rattle.link_session.specs.declared.waiting.Meaning.TheVariants.{NoAnswer, Answer}
use Rattle.device_core.specs.declared.wanted.Wanted.{Wanted}
use Rattle.qmi_services.specs.Requests.{row_of, inputs_of}

-- what is asked, with the client id and the number of its message
pub record Request : Type 0 where
  pub body : QmiRequest
  pub cid : ℕ
  pub number : ℕ

-- ---- its message ----

abbrev pub new_message : Request → NewMessage
new_message request = record {
  sender = Host;
  service = (row_of request.body).service;
  cid = request.cid;
  flags = flags_for (row_of request.body).service kind.Request;
  number = request.number;
  message = (row_of request.body).id;
}

unfoldable pub message_of : Request → List ℕ
message_of request = message_text (new_message request) (tlv_text (inputs_of request.body))

-- ---- its answer ----

-- a response with this service, client id and number
abbrev pub answers : Wanted → List ℕ → Bool
answers wanted message =
    is_response (kind_of message) && (service_of message == wanted.service) && (cid_of message == wanted.cid) && (number_of message == wanted.number)

abbrev pub wanted_by : Request → Wanted
wanted_by request = record { service = (row_of request.body).service; cid = request.cid; number = request.number }

-- whatever came before
abbrev pub judge_by : Wanted → Judge
judge_by wanted = λ before message. if answers wanted message.bytes then Answer else NoAnswer

-- ---- what is asked ----

-- with so many seconds for its answer
abbrev pub asked : (seconds : ℕ) → Request → Asked
asked seconds request = record { size = size_of; text = message_of request; wait = waiting (judge_by (wanted_by request)) seconds }
