-- The sessions of `qmicli` with a QMI modem inside an MBIM modem.
use Rattle.std.specs.Prelude.{Bool, true, false, List, [], ℕ, Option, Some, None}
use Rattle.qmicli_print.specs.Answer.{end_text}
use Rattle.device_core.specs.declared.plan.QmiPlan.{QmiPlan}
use Rattle.tunnel_session.specs.declared.ends.TunnelEnd.{TunnelEnd}
use Rattle.tunnel_session.specs.declared.ends.TunnelEnd.TheVariants.{Qmi, Mbim, FunctionError}
use Rattle.tunnel_session.specs.Session.{Session}
use Rattle.sms_answers.specs.Qmi.{qmi_bodies}
use Rattle.tool_runs.specs.declared.session.Refusal.{Refusal}
use Rattle.tool_runs.specs.Asking.{Asked, asked_of, shown}
use Rattle.tool_runs.specs.Qmi as qmi
use Rattle.tool_runs.specs.Qmi.{qmi_decoding}

-- by either modem
abbrev pub refused : TunnelEnd → Option Refusal
refused (Qmi end) = qmi.refused end
refused (Mbim status) = Some (record { function = false; code = status })
refused (FunctionError code) = Some (record { function = true; code = code })

abbrev pub printed : TunnelEnd → List ℕ
printed (Qmi end) = end_text end
printed (Mbim status) = []
printed (FunctionError code) = []

abbrev pub bodies : TunnelEnd → List (List ℕ)
bodies (Qmi end) = qmi_bodies end
bodies (Mbim status) = []
bodies (FunctionError code) = []

abbrev pub tunnel_asked : (decode : Bool) → QmiPlan → Asked TunnelEnd
tunnel_asked decode plan = asked_of Session refused (shown (qmi_decoding decode) printed bodies) plan
