-- The sessions of `qmicli`.
use Rattle.std.specs.Prelude.{Bool, false, Option, Some, None, if◌then◌else◌}
use Rattle.qmi_services.specs.declared.answers.QmiAnswer.{QmiAnswer}
use Rattle.qmi_services.specs.declared.answers.QmiAnswer.TheVariants.{Success, Failure}
use Rattle.qmi_services.specs.declared.answers.QmiEnd.{QmiEnd}
use Rattle.device_core.specs.declared.plan.QmiPlan.{QmiPlan}
use Rattle.device_core.specs.Session.{Session}
use Rattle.qmicli_print.specs.Answer.{end_text}
use Rattle.sms_answers.specs.Qmi.{qmi_bodies}
use Rattle.sms_print.specs.declared.decoding.Decoding.{Decoding}
use Rattle.sms_print.specs.declared.decoding.Decoding.TheVariants.{Each, Nothing}
use Rattle.tool_runs.specs.declared.session.Refusal.{Refusal}
use Rattle.tool_runs.specs.Asking.{Asked, asked_of, shown}

-- a failure is a refusal in an answer
abbrev pub refused_as : QmiAnswer → Option Refusal
refused_as (Failure error) = Some (record { function = false; code = error })
refused_as (Success fields) = None

abbrev pub refused : QmiEnd → Option Refusal
refused end = refused_as end.answer

-- a message that is read is told, if that is wanted
abbrev pub qmi_decoding : (decode : Bool) → Decoding
qmi_decoding decode = if decode then Each else Nothing

abbrev pub qmi_asked : (decode : Bool) → QmiPlan → Asked QmiEnd
qmi_asked decode plan = asked_of Session refused (shown (qmi_decoding decode) end_text qmi_bodies) plan
