-- What a QMI tool prints where its session ended so whose messages an MBIM modem carried, and its exit status.
use Rattle.std.specs.Prelude.{ℕ, List, [], Option, Some, Result}
use Rattle.link_session.specs.declared.fault.SessionFault.{SessionFault}
use Rattle.device_core.specs.declared.plan.QmiPlan.{QmiPlan}
use Rattle.tunnel_session.specs.declared.ends.TunnelEnd.{TunnelEnd}
use Rattle.tunnel_session.specs.declared.ends.TunnelEnd.TheVariants.{Qmi, Mbim, FunctionError}
use Rattle.tunnel_session.specs.Peer.{LastWord, EndsWith}
use Rattle.qmicli_print.specs.Answer.{end_text}
use Rattle.printed_ends.specs.Printed as ends
use Rattle.printed_ends.specs.declared.printed.Printed.{Printed}
use Rattle.printed_ends.specs.Qmi as qmi

-- what the MBIM modem refuses prints nothing
abbrev pub text_of : TunnelEnd → List ℕ
text_of (Qmi end) = end_text end
text_of (Mbim status) = []
text_of (FunctionError code) = []

-- the number by which an end refuses: the QMI modem's error, the MBIM modem's status or error
abbrev pub refusal_of : TunnelEnd → Option ℕ
refusal_of (Qmi end) = qmi.refusal_of end
refusal_of (Mbim status) = Some status
refusal_of (FunctionError code) = Some code

abbrev pub IsOf : Result TunnelEnd SessionFault → Printed → Type 0
IsOf = ends.IsOf text_of refusal_of

-- it is printed by a session of a plan that ends as this says
abbrev pub Prints : QmiPlan → LastWord → Printed → Type 0
Prints plan = ends.Prints text_of refusal_of (λ end word. EndsWith end word plan)
