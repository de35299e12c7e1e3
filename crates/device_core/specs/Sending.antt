-- What a session does in all: it sends the requests of its plan, one after another, and takes.
use Rattle.std.specs.Prelude.{ℕ, ◌+◌, ◌==◌, if◌then◌else◌, List, [], ◌∷◌, All, map, Option, Some, None, Result}
use Rattle.link_io.specs.Calls.{Call}
use Rattle.link_session.specs.declared.fault.SessionFault.{SessionFault}
use Rattle.link_session.specs.Sending.{IsSendOrTake, EndsWell, SendsInOrder}
use Rattle.qmi_services.specs.declared.answers.QmiAnswer.{QmiAnswer}
use Rattle.qmi_services.specs.declared.answers.QmiAnswer.TheVariants.{Success, Failure}
use Rattle.qmi_services.specs.declared.answers.QmiEnd.{QmiEnd}
use Rattle.device_core.specs.declared.plan.QmiPlan.{QmiPlan}
use Rattle.device_core.specs.Requests.{Request, message_of}
use Rattle.device_core.specs.Session.{Session, service, proxy_open, allocate, command, release}

-- ---- the requests ----

-- the command with a client id, which is given back unless it is kept
abbrev pub with_cid : QmiPlan → ℕ → ℕ → List Request
with_cid plan cid number = command plan cid number ∷ (if plan.keep then [] else release plan cid number ∷ [])

-- the client id is given, or allocated
abbrev pub with_given : Option ℕ → QmiPlan → ℕ → ℕ → List Request
with_given (Some cid) plan allocated number = with_cid plan cid number
with_given None plan allocated number = allocate plan number ∷ with_cid plan allocated (number + 1)

-- the requests to the modem, from the number of the first one to service 0 on
abbrev pub modem_requests : QmiPlan → ℕ → ℕ → List Request
modem_requests plan allocated number =
    if service plan == 0
    then command plan 0 number ∷ []
    else with_given plan.cid plan allocated number

-- the requests of a plan, where this client id is allocated if one is
abbrev pub requests_of : QmiPlan → ℕ → List Request
requests_of plan allocated =
    if plan.proxied
    then proxy_open plan ∷ modem_requests plan allocated 2
    else modem_requests plan allocated 1

-- ---- the laws ----

abbrev pub IsSuccess : QmiAnswer → Type 0
IsSuccess (Success fields) = Unit {0}
IsSuccess (Failure error) = ⊥

abbrev pub IsGood : QmiEnd → Type 0
IsGood end = IsSuccess end.answer

-- the messages of requests
abbrev pub messages_of : List Request → List (List ℕ)
messages_of = map message_of

-- calls sent the messages of these requests in order
abbrev pub SendsRequests : List Request → List Call → Result QmiEnd SessionFault → Type 0
SendsRequests requests calls result = SendsInOrder (messages_of requests) calls (EndsWell IsGood result)

-- each call of a session is a send or a take
abbrev pub SessionsSendAndTake : Type 0
SessionsSendAndTake = (plan : QmiPlan) (calls : List Call) (result : Result QmiEnd SessionFault) → Session plan calls result → All IsSendOrTake calls

-- and what it sends are the requests of its plan
abbrev pub SessionsSendTheirRequests : Type 0
SessionsSendTheirRequests =
    (plan : QmiPlan) (calls : List Call) (result : Result QmiEnd SessionFault) → Session plan calls result
    → (allocated : ℕ) × SendsRequests (requests_of plan allocated) calls result
