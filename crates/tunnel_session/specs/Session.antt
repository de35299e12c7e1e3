-- A tool's whole session with a QMI modem that an MBIM modem carries messages to: the requests of a plan, each in a command of its own
-- behind the answer to the one before, between an OPEN and a CLOSE, and how it ends. MBIM's numbers count from 1.
-- Source: the order in which libqmi's qmi_device_open with QMI_DEVICE_OPEN_FLAGS_MBIM (src/libqmi-glib/qmi-endpoint-mbim.c) and qmicli ask.
use Rattle.std.specs.Prelude.{◌≡◌, ◌≢◌, ℕ, ◌+◌, true, false, List, option_and_then, Option, Some, None, Result, Ok, Err}
use Rattle.qmux_frame.specs.Head.{tlvs_in}
use Rattle.link_io.specs.Calls.{Call}
use Rattle.mbim_requests.specs.declared.MbimRequest.{MbimRequest}
use Rattle.mbim_requests.specs.declared.MbimRequest.TheVariants.{ProxyConfiguration}
use Rattle.mbim_services.specs.declared.answers.MbimAnswer.TheVariants as answer
use Rattle.qmi_requests.specs.declared.QmiRequest.TheVariants.{Allocate, Release}
use Rattle.qmi_services.specs.declared.answers.QmiAnswer.{QmiAnswer}
use Rattle.qmi_services.specs.declared.answers.QmiAnswer.TheVariants.{Success, Failure}
use Rattle.link_session.specs.declared.fault.SessionFault.{SessionFault}
use Rattle.link_session.specs.declared.fault.SessionFault.TheVariants as fault
use Rattle.link_session.specs.Marks.{Placed}
use Rattle.link_session.specs.Waiting.{Heard, nothing_heard}
use Rattle.link_session.specs.Asking.{Stops, Step, ReadsThen}
use Rattle.mbim_session.specs.declared.plan.MbimEnd.{MbimEnd}
use Rattle.mbim_session.specs.declared.plan.MbimEnd.TheVariants as mbim
use Rattle.mbim_session.specs.Answers as answers
use Rattle.mbim_session.specs.Requests.{closing, commanding, opening}
use Rattle.mbim_session.specs.Session.{UnlessRefused}
use Rattle.device_core.specs.declared.plan.QmiPlan.{QmiPlan}
use Rattle.device_core.specs.Requests.{Request, wanted_by}
use Rattle.device_core.specs.Session as qmi
use Rattle.device_core.specs.Session.{allocated_in, command, failed, service}
use Rattle.tunnel_session.specs.declared.carried.Carried.{Carried}
use Rattle.tunnel_session.specs.declared.carried.Carried.TheVariants as carried
use Rattle.tunnel_session.specs.declared.ends.TunnelEnd.{TunnelEnd}
use Rattle.tunnel_session.specs.declared.ends.TunnelEnd.TheVariants.{Qmi, Mbim, FunctionError}
use Rattle.tunnel_session.specs.Requests.{carrying}
use Rattle.tunnel_session.specs.Carried.{Reads}

-- ---- what answers come to ----

-- what of the MBIM modem or of its proxy ends the session before its requests
abbrev pub refusal_in : MbimEnd → Option TunnelEnd
refusal_in (mbim.Answer (answer.Success shape val)) = None
refusal_in (mbim.Answer (answer.Failure status)) = Some (Mbim status)
refusal_in (mbim.FunctionError code) = Some (FunctionError code)

-- a status or a FUNCTION_ERROR for a request ends it too
abbrev pub OnMessage : Carried → List Call → Result TunnelEnd SessionFault → (Placed → Type 0) → Type 0
OnMessage (carried.Message message) calls result Then = Then (record { place = message.place; bytes = message.bytes })
OnMessage (carried.Refused end) calls result Then = Stops (Ok end) calls result

-- a request in the command with this number, with so many seconds for its answer, and what follows that
abbrev pub Carries : Request → (number seconds : ℕ) → Heard → List Call → Result TunnelEnd SessionFault → (Placed → Heard → List Call → Type 0) → Type 0
Carries request number seconds heard calls result Then =
    Step (carrying request number seconds) heard calls result (λ before message later more.
    ReadsThen (Reads (wanted_by request) number before message) more result (λ came. OnMessage came more result (λ message. Then message later more)))

-- ---- the requests of a plan, the last one first; `number` is that of the next message to the MBIM modem, `control` that of the next request to service 0 ----

-- what answers a CLOSE isn't looked at
abbrev pub Closes : TunnelEnd → (number seconds : ℕ) → Heard → List Call → Result TunnelEnd SessionFault → Type 0
Closes end number seconds heard calls result = Step (closing number seconds) heard calls result (λ before message later more. Stops (Ok end) more result)

abbrev pub end_with : QmiAnswer → Option (ℕ × ℕ) → TunnelEnd
end_with answer kept = Qmi (record { answer = answer; kept = kept })

-- the client id is given back; what the answer says isn't read
abbrev pub Releases : QmiPlan → (cid control number : ℕ) → QmiAnswer → Heard → List Call → Result TunnelEnd SessionFault → Type 0
Releases plan cid control number answer heard calls result =
    Carries (record { body = Release (service plan) cid; cid = 0; number = control }) number plan.timeout heard calls result (λ message later more. Closes (end_with answer None) (number + 1) plan.timeout later more result)

-- what becomes of the client id
pub data Finishes (plan : QmiPlan) (cid control number : ℕ) (answer : QmiAnswer) (heard : Heard) (calls : List Call) (result : Result TunnelEnd SessionFault) : Type 0 where
  without : service plan ≡ 0 → Closes (end_with answer None) number plan.timeout heard calls result → Finishes plan cid control number answer heard calls result
  keeping : service plan ≢ 0 → plan.keep ≡ true → Closes (end_with answer (Some (service plan, cid))) number plan.timeout heard calls result → Finishes plan cid control number answer heard calls result
  releasing : service plan ≢ 0 → plan.keep ≡ false → Releases plan cid control number answer heard calls result → Finishes plan cid control number answer heard calls result

-- whatever the answer to the command says
abbrev pub ReadsCommand : QmiPlan → (cid control : ℕ) → Placed → (number : ℕ) → Heard → List Call → Result TunnelEnd SessionFault → Type 0
ReadsCommand plan cid control message number heard calls result =
    ReadsThen (qmi.Reads plan.request message) calls result (λ answer. Finishes plan cid control number answer heard calls result)

abbrev pub Commands : QmiPlan → (cid control number : ℕ) → Heard → List Call → Result TunnelEnd SessionFault → Type 0
Commands plan cid control number heard calls result =
    Carries (command plan cid control) number plan.timeout heard calls result (λ message later more. ReadsCommand plan cid control message (number + 1) later more result)

-- with the client id that an answer allocates
abbrev pub CommandsAs : QmiPlan → (message : List ℕ) → (number : ℕ) → Heard → List Call → Result TunnelEnd SessionFault → Type 0
CommandsAs plan message number heard calls result =
    (cid : ℕ) × (allocated_in (tlvs_in message) ≡ Some cid) × Commands plan cid 2 number heard calls result

-- a failure of Allocate is the session's answer, and the MBIM modem is closed behind it
abbrev pub OnSuccess : QmiAnswer → (number seconds : ℕ) → Heard → List Call → Result TunnelEnd SessionFault → Type 0 → Type 0
OnSuccess (Success fields) number seconds heard calls result Then = Then
OnSuccess (Failure error) number seconds heard calls result Then = Closes (Qmi (failed error)) number seconds heard calls result

abbrev pub TakesClient : QmiPlan → (service : ℕ) → Placed → (number : ℕ) → Heard → List Call → Result TunnelEnd SessionFault → Type 0
TakesClient plan service message number heard calls result =
    ReadsThen (qmi.Reads (Allocate service) message) calls result (λ answer. OnSuccess answer number plan.timeout heard calls result (CommandsAs plan message.bytes number heard calls result))

abbrev pub Allocates : QmiPlan → (service number : ℕ) → Heard → List Call → Result TunnelEnd SessionFault → Type 0
Allocates plan service number heard calls result =
    Carries (record { body = Allocate service; cid = 0; number = 1 }) number plan.timeout heard calls result (λ message later more. TakesClient plan service message (number + 1) later more result)

-- whose client id the command has
pub data Chooses (plan : QmiPlan) (number : ℕ) (heard : Heard) (calls : List Call) (result : Result TunnelEnd SessionFault) : Type 0 where
  control : service plan ≡ 0 → Commands plan 0 1 number heard calls result → Chooses plan number heard calls result
  given : (cid : ℕ) → service plan ≢ 0 → plan.cid ≡ Some cid → Commands plan cid 1 number heard calls result → Chooses plan number heard calls result
  allocating : service plan ≢ 0 → plan.cid ≡ None → Allocates plan (service plan) number heard calls result → Chooses plan number heard calls result

abbrev pub Opens : QmiPlan → (number : ℕ) → Heard → List Call → Result TunnelEnd SessionFault → Type 0
Opens plan number heard calls result =
    Step (opening number plan.timeout) heard calls result (λ before message later more.
    ReadsThen (answers.ReadsOpening number message) more result (λ refused.
    UnlessRefused (option_and_then refusal_in refused) more result (Chooses plan (number + 1) later more result)))

-- the configuration of the proxy
abbrev pub configuration : QmiPlan → MbimRequest
configuration plan = ProxyConfiguration plan.device

-- the session, with all its calls
pub data Session (plan : QmiPlan) (calls : List Call) (result : Result TunnelEnd SessionFault) : Type 0 where
  no_memory : Stops (Err fault.OutOfMemory) calls result → Session plan calls result
  direct : plan.proxied ≡ false → Opens plan 1 nothing_heard calls result → Session plan calls result
  proxied : plan.proxied ≡ true
      → Step (commanding (configuration plan) 1 plan.timeout) nothing_heard calls result (λ before message later more.
      ReadsThen (answers.Reads (configuration plan) 1 before message) more result (λ end.
      UnlessRefused (refusal_in end) more result (Opens plan 2 later more result)))
      → Session plan calls result
