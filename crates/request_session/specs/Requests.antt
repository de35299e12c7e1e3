-- The whole message of a request that is given by its TLVs, and which message answers it.
use Rattle.std.specs.Prelude.{ℕ, Bool, ◌==◌, ◌&&◌, if◌then◌else◌, List}
use Rattle.qmux_frame.specs.declared.kind.MessageKind.TheVariants as kind
use Rattle.qmux_frame.specs.declared.writing.NewMessage.{NewMessage}
use Rattle.qmux_frame.specs.declared.writing.Sender.TheVariants.{Host}
use Rattle.qmux_frame.specs.Frame.{size_of}
use Rattle.qmux_frame.specs.Head.{message_id_of}
use Rattle.qmux_frame.specs.Kind.{flags_for}
use Rattle.qmux_frame.specs.Writing.{message_text}
use Rattle.link_session.specs.Waiting.{Judge, waiting}
use Rattle.link_session.specs.Asking.{Asked}
use Rattle.link_session.specs.declared.waiting.Meaning.TheVariants.{NoAnswer, Answer}
use Rattle.device_core.specs.Requests as device
use Rattle.request_session.specs.declared.request.TlvRequest.{TlvRequest}
use Rattle.request_session.specs.declared.wanted.WantedAnswer.{WantedAnswer}

abbrev pub new_message : TlvRequest → (cid number : ℕ) → NewMessage
new_message request cid number = record {
  sender = Host;
  service = request.service;
  cid = cid;
  flags = flags_for request.service kind.Request;
  number = number;
  message = request.message;
}

unfoldable pub message_of : TlvRequest → (cid number : ℕ) → List ℕ
message_of request cid number = message_text (new_message request cid number) request.tlvs

-- a response with this service, client id, number and message id
abbrev pub answers : WantedAnswer → List ℕ → Bool
answers wanted message = device.answers wanted.wanted message && (message_id_of message == wanted.message)

abbrev pub wanted_by : TlvRequest → (cid number : ℕ) → WantedAnswer
wanted_by request cid number = record { wanted = record { service = request.service; cid = cid; number = number }; message = request.message }

-- whatever came before
abbrev pub judge_by : WantedAnswer → Judge
judge_by wanted = λ before message. if answers wanted message.bytes then Answer else NoAnswer

-- with so many seconds for its answer
abbrev pub asked : (seconds : ℕ) → TlvRequest → (cid number : ℕ) → Asked
asked seconds request cid number = record { size = size_of; text = message_of request cid number; wait = waiting (judge_by (wanted_by request cid number)) seconds }
