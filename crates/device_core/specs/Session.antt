-- A tool's whole session: the requests of a plan, each behind the answer to the one before, and how it ends.
-- Source: the order in which libqmi's qmi_device_open and qmi_device_allocate_client (src/libqmi-glib/qmi-device.c) and qmicli ask.
use Rattle.std.specs.Prelude.{◌≡◌, ◌≢◌, ◌⊎◌, ℕ, ◌+◌, true, false, ◌==◌, if◌then◌else◌, List, slice_get, option_and_then, Option, Some, None, Result, Ok, Err}
use Rattle.qmux_frame.specs.Head.{is_framed, tlvs_in}
use Rattle.tlv_codec.specs.Tlv.{tlv_value}
use Rattle.link_io.specs.Calls.{Call}
use Rattle.qmi_requests.specs.declared.QmiRequest.{QmiRequest}
use Rattle.qmi_requests.specs.declared.QmiRequest.TheVariants.{ProxyOpen, Allocate, Release}
use Rattle.qmi_services.specs.declared.answers.QmiAnswer.{QmiAnswer}
use Rattle.qmi_services.specs.declared.answers.QmiAnswer.TheVariants.{Success, Failure}
use Rattle.qmi_services.specs.declared.answers.AnswerFault.TheVariants.{Unread}
use Rattle.qmi_services.specs.Requests.{row_of}
use Rattle.qmi_services.specs.Answers.{Answers}
use Rattle.link_session.specs.declared.fault.SessionFault.{SessionFault}
use Rattle.link_session.specs.declared.fault.SessionFault.TheVariants as fault
use Rattle.link_session.specs.Marks.{Placed}
use Rattle.link_session.specs.Waiting.{Heard, nothing_heard}
use Rattle.link_session.specs.Asking.{Stops, Step, ReadsThen}
use Rattle.device_core.specs.declared.plan.QmiPlan.{QmiPlan}
use Rattle.qmi_services.specs.declared.answers.QmiEnd.{QmiEnd}
use Rattle.device_core.specs.Requests.{Request, asked}

-- ---- what answers say ----

-- what an answer says to a request: one that isn't framed or doesn't read breaks the session where it begins
abbrev pub Reads : QmiRequest → Placed → Result QmiAnswer SessionFault → Type 0
Reads body message (Ok answer) = (is_framed message.bytes ≡ true) × Answers (row_of body).output (tlvs_in message.bytes) (Ok answer)
Reads body message (Err (fault.Broken place)) = (place ≡ message.place) × ((is_framed message.bytes ≡ false) ⊎ Answers (row_of body).output (tlvs_in message.bytes) (Err Unread))
Reads body message (Err fault.OutOfMemory) = Unit {0}
Reads body message (Err _) = ⊥

-- the end with this failure before the command
abbrev pub failed : ℕ → QmiEnd
failed error = record { answer = Failure error; kept = None }

-- a failure before the command ends the session as the answer
abbrev pub OnSuccess : QmiAnswer → List Call → Result QmiEnd SessionFault → Type 0 → Type 0
OnSuccess (Success fields) calls result Then = Then
OnSuccess (Failure error) calls result Then = Stops (Ok (failed error)) calls result

-- ---- the requests of a plan, the last one first; the requests to service 0 are numbered from 1 ----

abbrev pub service : QmiPlan → ℕ
service plan = (row_of plan.request).service

-- the session ends with this answer
abbrev pub end_with : QmiAnswer → Option (ℕ × ℕ) → Result QmiEnd SessionFault
end_with answer kept = Ok (record { answer = answer; kept = kept })

abbrev pub release : QmiPlan → ℕ → ℕ → Request
release plan cid number = record { body = Release (service plan) cid; cid = 0; number = number }

-- the answer to Release must be framed, and isn't read
abbrev pub released : Placed → QmiAnswer → Result QmiEnd SessionFault
released message answer = if is_framed message.bytes then end_with answer None else Err (fault.Broken message.place)

-- what becomes of the client id
pub data Finishes (plan : QmiPlan) (cid number : ℕ) (answer : QmiAnswer) (heard : Heard) (calls : List Call) (result : Result QmiEnd SessionFault) : Type 0 where
  without : service plan ≡ 0 → Stops (end_with answer None) calls result → Finishes plan cid number answer heard calls result
  keeping : service plan ≢ 0 → plan.keep ≡ true → Stops (end_with answer (Some (service plan, cid))) calls result → Finishes plan cid number answer heard calls result
  releasing : service plan ≢ 0 → plan.keep ≡ false
      → Step (asked plan.timeout (release plan cid number)) heard calls result (λ before message later more. Stops (released message answer) more result)
      → Finishes plan cid number answer heard calls result

abbrev pub command : QmiPlan → ℕ → ℕ → Request
command plan cid number = record { body = plan.request; cid = cid; number = if service plan == 0 then number else 1 }

-- the command, from the number of the next request to service 0 on
abbrev pub Commands : QmiPlan → ℕ → ℕ → Heard → List Call → Result QmiEnd SessionFault → Type 0
Commands plan cid number heard calls result =
    Step (asked plan.timeout (command plan cid number)) heard calls result (λ before message later more.
    ReadsThen (Reads plan.request message) more result (λ answer. Finishes plan cid number answer later more result))

-- the second number of the first Allocation, which is a service and a client id of one byte each
-- Source: the message `Allocate CID` in libqmi's data/qmi-service-ctl.json.
abbrev pub allocated_in : List ℕ → Option ℕ
allocated_in tlvs = option_and_then (λ value. slice_get value 1) (tlv_value 0x01 tlvs)

abbrev pub CommandsAs : QmiPlan → List ℕ → ℕ → Heard → List Call → Result QmiEnd SessionFault → Type 0
CommandsAs plan message number heard calls result =
    (cid : ℕ) × (allocated_in (tlvs_in message) ≡ Some cid) × Commands plan cid number heard calls result

abbrev pub allocate : QmiPlan → ℕ → Request
allocate plan number = record { body = Allocate (service plan); cid = 0; number = number }

-- whose client id the command has
pub data Chooses (plan : QmiPlan) (number : ℕ) (heard : Heard) (calls : List Call) (result : Result QmiEnd SessionFault) : Type 0 where
  control : service plan ≡ 0 → Commands plan 0 number heard calls result → Chooses plan number heard calls result
  given : (cid : ℕ) → service plan ≢ 0 → plan.cid ≡ Some cid → Commands plan cid number heard calls result → Chooses plan number heard calls result
  allocating : service plan ≢ 0 → plan.cid ≡ None
      → Step (asked plan.timeout (allocate plan number)) heard calls result (λ before message later more.
      ReadsThen (Reads (Allocate (service plan)) message) more result (λ answer. OnSuccess answer more result (CommandsAs plan message.bytes (number + 1) later more result)))
      → Chooses plan number heard calls result

abbrev pub proxy_open : QmiPlan → Request
proxy_open plan = record { body = ProxyOpen plan.device; cid = 0; number = 1 }

-- the session, with all its calls
pub data Session (plan : QmiPlan) (calls : List Call) (result : Result QmiEnd SessionFault) : Type 0 where
  no_memory : Stops (Err fault.OutOfMemory) calls result → Session plan calls result
  direct : plan.proxied ≡ false → Chooses plan 1 nothing_heard calls result → Session plan calls result
  proxied : plan.proxied ≡ true
      → Step (asked plan.timeout (proxy_open plan)) nothing_heard calls result (λ before message later more.
      ReadsThen (Reads (ProxyOpen plan.device) message) more result (λ answer. OnSuccess answer more result (Chooses plan 2 later more result)))
      → Session plan calls result
