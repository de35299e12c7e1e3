-- What the calls on a link come to, over a whole visit.
use Rattle.std.specs.Prelude.{◌≡◌, ℕ, Bool, true, false, List, [], ◌∷◌, ◌++◌, count_by, Result}
use Rattle.link_io.specs.Calls.{Call, Opened, Paired, Closed}
use Rattle.link_session.specs.declared.fault.SessionFault.{SessionFault}
use Rattle.link_session.specs.Sending.{EndsWell, SendsInOrder}
use Rattle.qmi_services.specs.declared.answers.QmiEnd.{QmiEnd}
use Rattle.device_core.specs.declared.plan.QmiPlan.{QmiPlan}
use Rattle.device_core.specs.Session as qmi
use Rattle.device_core.specs.Sending.{SendsRequests, requests_of}
use Rattle.mbim_session.specs.declared.plan.MbimPlan.{MbimPlan}
use Rattle.mbim_session.specs.declared.plan.MbimEnd.{MbimEnd}
use Rattle.mbim_session.specs.Session as mbim
use Rattle.mbim_session.specs.Sending.{IsGood, messages_of}
use Rattle.tool_runs.specs.Asking.{Exchange}

abbrev pub is_opening : Call → Bool
is_opening (Opened address ok) = true
is_opening (Paired ok) = true
is_opening _ = false

abbrev pub is_closing : Call → Bool
is_closing Closed = true
is_closing _ = false

-- none of the calls opens or pairs the link, and one closes it, the last
pub record IsOneVisit (calls : List Call) : Type 0 where
  pub earlier : List Call
  pub openings : count_by is_opening calls ≡ 0
  pub closings : count_by is_closing calls ≡ 1
  pub last : calls ≡ earlier ++ Closed ∷ []

-- ---- the laws ----

-- of sessions with a QMI modem, and with an MBIM modem
abbrev pub ExchangesAreOneVisit : Type 0
ExchangesAreOneVisit =
    ((plan : QmiPlan) (calls : List Call) (result : Result QmiEnd SessionFault) → Exchange (qmi.Session plan) calls result → IsOneVisit calls)
    × ((plan : MbimPlan) (calls : List Call) (result : Result MbimEnd SessionFault) → Exchange (mbim.Session plan) calls result → IsOneVisit calls)

-- what is sent are the requests of the plan
abbrev pub ExchangesSendTheRequests : Type 0
ExchangesSendTheRequests =
    ((plan : QmiPlan) (calls : List Call) (result : Result QmiEnd SessionFault) → Exchange (qmi.Session plan) calls result → (allocated : ℕ) × SendsRequests (requests_of plan allocated) calls result)
    × ((plan : MbimPlan) (calls : List Call) (result : Result MbimEnd SessionFault) → Exchange (mbim.Session plan) calls result → SendsInOrder (messages_of plan) calls (EndsWell IsGood result))
