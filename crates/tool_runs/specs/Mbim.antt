-- The sessions of `mbimcli`.
use Rattle.std.specs.Prelude.{ℕ, Bool, true, false, List, [], Option, Some, None, if◌then◌else◌}
use Rattle.mbim_services.specs.declared.answers.MbimAnswer.{MbimAnswer}
use Rattle.mbim_services.specs.declared.answers.MbimAnswer.TheVariants.{Success, Failure}
use Rattle.mbim_session.specs.declared.plan.MbimPlan.{MbimPlan}
use Rattle.mbim_session.specs.declared.plan.MbimEnd.{MbimEnd}
use Rattle.mbim_session.specs.declared.plan.MbimEnd.TheVariants.{Answer, FunctionError}
use Rattle.mbim_session.specs.Session.{Session}
use Rattle.mbimcli_print.specs.Answer.{answer_text}
use Rattle.mbim_requests.specs.declared.MbimRequest.{MbimRequest}
use Rattle.mbim_requests.specs.declared.MbimRequest.TheVariants as request
use Rattle.sms_answers.specs.Mbim.{mbim_bodies}
use Rattle.sms_print.specs.declared.decoding.Decoding.{Decoding}
use Rattle.sms_print.specs.declared.decoding.Decoding.TheVariants.{Each, Joined, Nothing}
use Rattle.tool_runs.specs.declared.session.Refusal.{Refusal}
use Rattle.tool_runs.specs.Asking.{Asked, asked_of, shown}

-- a failure is a refusal in an answer
abbrev pub refused_in : MbimAnswer → Option Refusal
refused_in (Failure status) = Some (record { function = false; code = status })
refused_in (Success shape val) = None

abbrev pub refused : MbimEnd → Option Refusal
refused (Answer answer) = refused_in answer
refused (FunctionError code) = Some (record { function = true; code = code })

abbrev pub printed : MbimEnd → List ℕ
printed (Answer answer) = answer_text answer
printed (FunctionError code) = []

abbrev pub bodies : MbimEnd → List (List ℕ)
bodies (Answer answer) = mbim_bodies answer
bodies (FunctionError code) = []

-- all messages are read, among which may be whole ones
abbrev pub reads_all : MbimRequest → Bool
reads_all request.SmsReadAll = true
reads_all _ = false

-- messages that are read are told, if that is wanted
abbrev pub mbim_decoding : (decode : Bool) → MbimRequest → Decoding
mbim_decoding decode request = if decode then (if reads_all request then Joined else Each) else Nothing

abbrev pub mbim_asked : (decode : Bool) → MbimPlan → Asked MbimEnd
mbim_asked decode plan = asked_of Session refused (shown (mbim_decoding decode plan.request) printed bodies) plan
