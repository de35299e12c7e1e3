-- What the code's calls do, as what the session has heard.
use Rattle.std.specs.Prelude.{ℕ, List, Option, Some, None, Result}
use Rattle.framing.specs.Reading.{Reading}
use Rattle.link_io.specs.Calls.{Call}
use Rattle.link_session.specs.declared.asking.Reply.{Reply}
use Rattle.link_session.specs.declared.fault.SessionFault.{SessionFault}
use Rattle.link_session.specs.Marks.{Placed}
use Rattle.link_session.specs.Waiting.{Heard}
use Rattle.link_session.specs.Hearing as hearing
use Rattle.qmi_services.specs.declared.answers.QmiAnswer.{QmiAnswer}
use Rattle.qmi_services.specs.declared.answers.QmiAnswer.TheVariants.{Success, Failure}
use Rattle.device_core.specs.Requests.{Request, asked}
use Rattle.device_core.specs.Session.{Reads}

-- the one who waits keeps nothing of an answer
abbrev pub KeepsNothing : List Placed → Placed → Type 0
KeepsNothing before message = Unit {0}

-- a request was made, with so many seconds for its answer, and that was read
abbrev pub RepliesTo : (seconds : ℕ) → Request → Heard → Result (Reply QmiAnswer) SessionFault → Reading → Option (List Call) → Option (List Call) → Type 0
RepliesTo seconds request heard result cutter before after = hearing.RepliesTo (asked seconds request) (λ passed. Reads request.body) heard result cutter before after

-- the error of a failure
abbrev pub failure_in : QmiAnswer → Option ℕ
failure_in (Success fields) = None
failure_in (Failure error) = Some error
