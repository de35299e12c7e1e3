-- A modem that serves the session of a plan at its first requests. Lists of messages have the newest first.
use Rattle.std.specs.Prelude.{◌≡◌, ◌≤◌, ◌<◌, ℕ, true, false, ◌||◌, ◌==◌, List, [], ◌∷◌, length, Some, None}
use Rattle.tlv_codec.specs.Tlv.{tlv_text, first_value}
use Rattle.qmux_frame.specs.declared.kind.MessageKind.TheVariants as kind
use Rattle.qmux_frame.specs.declared.writing.NewMessage.{NewMessage}
use Rattle.qmux_frame.specs.Head.{service_of, cid_of, number_of}
use Rattle.qmux_frame.specs.Kind.{flags_for}
use Rattle.qmux_frame.specs.Reply.{result_tlv}
use Rattle.qmux_frame.specs.Writing.{message_text}
use Rattle.qmi_requests.specs.declared.QmiRequest.{QmiRequest}
use Rattle.qmi_requests.specs.declared.QmiRequest.TheVariants.{ProxyOpen}
use Rattle.qmi_services.specs.Requests.{row_of, inputs_of}
use Rattle.device_core.specs.declared.plan.QmiPlan.{QmiPlan}
use Rattle.device_core.specs.Requests.{Request, message_of}
use Rattle.device_core.specs.Session.{service, allocate, allocated_in, release}
use Rattle.lone_client.specs.Relay.{Answering}

-- the modem answers a message by one response, which has the message's service, client id and number
pub record Answers (modem : Answering) (before : List (List ℕ)) (m : List ℕ) : Type 0 where
  pub response : NewMessage
  pub tlvs : List ℕ
  pub replies : modem before m ≡ message_text response tlvs
  pub short : length (message_text response tlvs) ≤ 16000
  pub flags : response.flags ≡ flags_for response.service kind.Response
  pub service : response.service ≡ service_of m
  pub cid : response.cid ≡ cid_of m
  pub number : response.number ≡ number_of m

-- the command of a plan, with this client id: the first request to its service
abbrev pub first_command : QmiPlan → ℕ → Request
first_command plan cid = record { body = plan.request; cid = cid; number = 1 }

-- a request to service 0
abbrev pub of_control : QmiRequest → ℕ → Request
of_control body number = record { body = body; cid = 0; number = number }

-- an id that nobody can hold
abbrev pub IsNobodys : ℕ → Type 0
IsNobodys cid = (cid == 0 || (cid == 255)) ≡ true

-- a modem that answers each request of a session, and gives id 1; an id that is nobody's it refuses
pub record Serves (modem : Answering) (plan : QmiPlan) : Type 0 where
  -- it is asked for a client id first
  pub allocates : Answers modem [] (message_of (allocate plan 1))
  pub brings : allocated_in allocates.tlvs ≡ Some 1
  -- or the plan names one
  pub given : (cid : ℕ) → Answers modem [] (message_of (first_command plan cid))
  pub refuses : (cid : ℕ) → IsNobodys cid → (given cid).tlvs ≡ result_tlv 7
  pub allocated : Answers modem (message_of (allocate plan 1) ∷ []) (message_of (first_command plan 1))
  -- and gets it back, whatever it was asked before
  pub releases : (cid number : ℕ) → number < 256 → (before : List (List ℕ)) → Answers modem before (message_of (release plan cid number))

-- a plan whose command is to service 0 asks for the versions, and the modem tells them
pub record ServesVersions (modem : Answering) (plan : QmiPlan) : Type 0 where
  pub id : (row_of plan.request).id ≡ 0x21
  pub input : first_value 1 (inputs_of plan.request) ≡ None
  pub answers : Answers modem [] (message_of (of_control plan.request 1))

-- the plan's requests are short, and the modem answers them
pub record IsServed (modem : Answering) (plan : QmiPlan) : Type 0 where
  pub inputs : length (tlv_text (inputs_of plan.request)) ≤ 8000
  pub device : length (tlv_text (inputs_of (ProxyOpen plan.device))) ≤ 8000
  pub services : (service plan == 0) ≡ false → Serves modem plan
  pub versions : (service plan == 0) ≡ true → ServesVersions modem plan
