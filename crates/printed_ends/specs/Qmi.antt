-- What a QMI tool prints where its session ended so, and its exit status.
use Rattle.std.specs.Prelude.{ℕ, Option, Result}
use Rattle.link_session.specs.declared.fault.SessionFault.{SessionFault}
use Rattle.qmi_services.specs.declared.answers.QmiEnd.{QmiEnd}
use Rattle.device_core.specs.Hearing.{failure_in}
use Rattle.device_core.specs.Peer.{LastWord, EndsWith}
use Rattle.qmicli_print.specs.Answer.{end_text}
use Rattle.printed_ends.specs.Printed as ends
use Rattle.printed_ends.specs.declared.printed.Printed.{Printed}

-- the error by which an end refuses
abbrev pub refusal_of : QmiEnd → Option ℕ
refusal_of end = failure_in end.answer

abbrev pub IsOf : Result QmiEnd SessionFault → Printed → Type 0
IsOf = ends.IsOf end_text refusal_of

-- it is printed by a session that ends as this says
abbrev pub Prints : LastWord → Printed → Type 0
Prints = ends.Prints end_text refusal_of EndsWith
