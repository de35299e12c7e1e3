-- What an MBIM tool prints where its session ended so, and its exit status.
use Rattle.std.specs.Prelude.{ℕ, List, [], Option, Some, Result}
use Rattle.link_session.specs.declared.fault.SessionFault.{SessionFault}
use Rattle.mbim_session.specs.declared.plan.MbimEnd.{MbimEnd}
use Rattle.mbim_session.specs.declared.plan.MbimEnd.TheVariants.{Answer, FunctionError}
use Rattle.mbim_session.specs.Peer.{LastWord, EndsWith}
use Rattle.mbimcli_print.specs.Answer.{answer_text}
use Rattle.twin_sessions.specs.MbimRuns.{status_in}
use Rattle.printed_ends.specs.Printed as ends
use Rattle.printed_ends.specs.declared.printed.Printed.{Printed}

abbrev pub text_of : MbimEnd → List ℕ
text_of (Answer answer) = answer_text answer
text_of (FunctionError code) = []

-- the status, or the code, by which an end refuses
abbrev pub refusal_of : MbimEnd → Option ℕ
refusal_of (Answer answer) = status_in answer
refusal_of (FunctionError code) = Some code

abbrev pub IsOf : Result MbimEnd SessionFault → Printed → Type 0
IsOf = ends.IsOf text_of refusal_of

-- it is printed by a session that ends as this says
abbrev pub Prints : LastWord → Printed → Type 0
Prints = ends.Prints text_of refusal_of EndsWith
