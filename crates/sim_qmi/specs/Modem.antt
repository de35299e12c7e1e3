-- The messages that a simulated QMI modem sends. Lists of messages have the newest first.
use Rattle.std.specs.Prelude.{ℕ, List, [], ◌++◌, Option, Some, Result, Ok, Err, if◌then◌else◌}
use Rattle.qmux_frame.specs.declared.head.Head.{Head}
use Rattle.qmux_frame.specs.declared.kind.MessageKind.{MessageKind}
use Rattle.qmux_frame.specs.declared.kind.MessageKind.TheVariants as kind
use Rattle.qmux_frame.specs.declared.writing.NewMessage.{NewMessage}
use Rattle.qmux_frame.specs.declared.writing.Sender.TheVariants as sender
use Rattle.qmux_frame.specs.Head.{head_of, tlvs_in}
use Rattle.qmux_frame.specs.Kind.{framed_kind, flags_for}
use Rattle.qmux_frame.specs.Reply.{reply_to, result_tlv}
use Rattle.qmux_frame.specs.Writing.{message_text}
use Rattle.tlv_codec.specs.Tlv.{tlv_text}
use Rattle.qmi_services.specs.Table as table
use Rattle.qmi_services.specs.Table.{Output}
use Rattle.qmi_services.specs.Modem.{output_tlvs}
use Rattle.modem_profile.specs.Profile.{Profile}
use Rattle.sim_modem.specs.Sim.{Answering, Machine, HasMet}
use Rattle.sim_qmi.specs.declared.request.Request.{Request}
use Rattle.sim_qmi.specs.declared.request.Request.TheVariants.{Ctl, Wds, Dms, Nas, Wms}
use Rattle.sim_qmi.specs.declared.dms.DmsRequest.TheVariants.{SetOperatingMode}
use Rattle.sim_qmi.specs.State.{State, fresh, is_any_given}
use Rattle.sim_qmi.specs.Step.{Answer, failure, success, Step}
use Rattle.sim_qmi.specs.Ctl.{ctl_step}
use Rattle.sim_qmi.specs.Wds.{wds_step}
use Rattle.sim_qmi.specs.Dms.{dms_step}
use Rattle.sim_qmi.specs.Nas.{nas_step, serving_system}
use Rattle.sim_qmi.specs.Wms.{wms_step}
use Rattle.sim_qmi.specs.Requests.{asked, row_of}

-- ---- messages ----

-- the Result TLV, and then the outputs that are sent; a failure has the Result TLV alone
abbrev pub answer_tlvs : List Output → Answer → List ℕ
answer_tlvs outputs (failure error) = result_tlv error
answer_tlvs outputs (success values) = result_tlv 0 ++ tlv_text (output_tlvs outputs values)

-- the response to a request with this head, whose line of the table has these outputs
abbrev pub response : Head → List Output → Answer → List ℕ
response head outputs answer = message_text (reply_to head) (answer_tlvs outputs answer)

-- the Serving System indication, which goes to every client
abbrev pub to_all : NewMessage
to_all = record { sender = sender.Modem; service = table.nas; cid = 255; flags = flags_for table.nas kind.Indication; number = 0; message = table.get_serving_system.id }

abbrev pub indication : Profile → (mode : ℕ) → List ℕ
indication profile mode = message_text to_all (tlv_text (output_tlvs table.get_serving_system.output (serving_system profile mode)))

-- Set Operating Mode tells of the serving system, where an id of NAS is given
abbrev pub indications : Profile → State → Request → List ℕ
indications profile state (Dms (SetOperatingMode mode)) = if is_any_given state.clients table.nas then indication profile state.mode else []
indications profile state _ = []

-- ---- one request ----

abbrev pub serves : Profile → State → Request → Step
serves profile state (Ctl request) = ctl_step state request
serves profile state (Wds request) = wds_step state request
serves profile state (Dms request) = dms_step profile state request
serves profile state (Nas request) = nas_step profile state request
serves profile state (Wms request) = wms_step state request

-- the messages that a request brings, and the state then
pub record Exchange : Type 0 where
  pub messages : List ℕ
  pub state : State

-- the response, and then the indication of the state then, if there is one
abbrev pub exchange : Profile → Head → Request → Step → Exchange
exchange profile head request step = record {
  messages = response head (row_of request).output step.answer ++ indications profile step.state request;
  state = step.state;
}

abbrev pub takes : Profile → State → Head → Result Request ℕ → Exchange
takes profile state head (Err error) = record { messages = response head [] (failure error); state = state }
takes profile state head (Ok request) = exchange profile head request (serves profile state request)

-- a message that isn't a request, or that isn't framed, brings nothing
abbrev pub takes_kind : Profile → State → (message : List ℕ) → Option MessageKind → Exchange
takes_kind profile state message (Some kind.Request) = takes profile state (head_of message) (asked state (head_of message) (tlvs_in message))
takes_kind profile state message _ = record { messages = []; state = state }

abbrev pub meets : Profile → State → (message : List ℕ) → Exchange
meets profile state message = takes_kind profile state message (framed_kind message)

-- ---- a modem ----

abbrev pub machine : Profile → Machine State
machine profile = record {
  fresh = fresh profile;
  sends = λ state message. (meets profile state message).messages;
  next = λ state message. (meets profile state message).state;
}

-- what it tells of itself, and what it keeps
pub record Modem : Type 0 where
  pub profile : Profile
  pub state : State

-- a modem with these answers has met these messages
abbrev pub Keeps : Answering → (past : List (List ℕ)) → Modem → Type 0
Keeps answering past modem = HasMet (machine modem.profile) answering past modem.state
