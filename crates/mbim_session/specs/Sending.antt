-- What a session with an MBIM modem does in all: it sends the messages of its plan, one after another, and takes.
use Rattle.std.specs.Prelude.{ℕ, ◌+◌, if◌then◌else◌, List, [], ◌∷◌, All, Result}
use Rattle.link_io.specs.Calls.{Call}
use Rattle.mbim_frame.specs.Writing.{open_request, close_request}
use Rattle.mbim_services.specs.declared.answers.MbimAnswer.TheVariants.{Success, Failure}
use Rattle.link_session.specs.declared.fault.SessionFault.{SessionFault}
use Rattle.link_session.specs.Sending.{IsSendOrTake, EndsWell, SendsInOrder}
use Rattle.mbim_session.specs.declared.plan.MbimPlan.{MbimPlan}
use Rattle.mbim_session.specs.declared.plan.MbimEnd.{MbimEnd}
use Rattle.mbim_session.specs.declared.plan.MbimEnd.TheVariants.{Answer, FunctionError}
use Rattle.mbim_session.specs.Requests.{command_message, longest_sent}
use Rattle.mbim_session.specs.Session.{Session, configuration}

-- the messages to the modem, from the number of the first one on
abbrev pub modem_messages : MbimPlan → ℕ → List (List ℕ)
modem_messages plan number =
    open_request number longest_sent ∷ command_message plan.request (number + 1) ∷ (if plan.close then close_request (number + 1 + 1) ∷ [] else [])

abbrev pub messages_of : MbimPlan → List (List ℕ)
messages_of plan =
    if plan.proxied
    then command_message (configuration plan) 1 ∷ modem_messages plan 2
    else modem_messages plan 1

-- ---- the laws ----

abbrev pub IsGood : MbimEnd → Type 0
IsGood (Answer (Success shape val)) = Unit {0}
IsGood (Answer (Failure status)) = ⊥
IsGood (FunctionError code) = ⊥

-- each call of a session is a send or a take
abbrev pub SessionsSendAndTake : Type 0
SessionsSendAndTake = (plan : MbimPlan) (calls : List Call) (result : Result MbimEnd SessionFault) → Session plan calls result → All IsSendOrTake calls

-- and what it sends are the messages of its plan
abbrev pub SessionsSendTheirMessages : Type 0
SessionsSendTheirMessages =
    (plan : MbimPlan) (calls : List Call) (result : Result MbimEnd SessionFault) → Session plan calls result
    → SendsInOrder (messages_of plan) calls (EndsWell IsGood result)
