-- The sessions whose end is printed as one JSON object, on a line.
use Rattle.std.specs.Prelude.{List, [], ℕ}
use Rattle.qmi_services.specs.declared.answers.QmiEnd.{QmiEnd}
use Rattle.device_core.specs.declared.plan.QmiPlan.{QmiPlan}
use Rattle.device_core.specs.Session.{Session}
use Rattle.mbim_session.specs.declared.plan.MbimPlan.{MbimPlan}
use Rattle.mbim_session.specs.declared.plan.MbimEnd.{MbimEnd}
use Rattle.mbim_session.specs.declared.plan.MbimEnd.TheVariants as mbim_end
use Rattle.mbim_session.specs.Session as mbim
use Rattle.tunnel_session.specs.declared.ends.TunnelEnd.{TunnelEnd}
use Rattle.tunnel_session.specs.declared.ends.TunnelEnd.TheVariants.{Qmi, Mbim, FunctionError}
use Rattle.tunnel_session.specs.Session as tunnel
use Rattle.sms_print.specs.declared.decoding.Decoding.TheVariants.{Nothing}
use Rattle.fields_json.specs.Answers.{answer_json}
use Rattle.json_values.specs.Ends.{end_json}
use Rattle.json_values.specs.Lines.{json_line}
use Rattle.json_values.specs.Showing.{by_qmicli}
use Rattle.tool_runs.specs.Asking.{Asked, asked_of, shown}
use Rattle.tool_runs.specs.Mbim as of_mbim
use Rattle.tool_runs.specs.Qmi.{refused}
use Rattle.tool_runs.specs.Tunnel as inside

abbrev pub end_line : QmiEnd → List ℕ
end_line end = json_line (end_json by_qmicli end)

-- what its messages say isn't told
abbrev pub no_bodies : {End : Type 0} → End → List (List ℕ)
no_bodies end = []

abbrev pub qmi_json : QmiPlan → Asked QmiEnd
qmi_json plan = asked_of Session refused (shown Nothing end_line no_bodies) plan

-- the MBIM modem around it is told by its refusals alone
abbrev pub inside_line : TunnelEnd → List ℕ
inside_line (Qmi end) = end_line end
inside_line (Mbim status) = []
inside_line (FunctionError code) = []

abbrev pub tunnel_json : QmiPlan → Asked TunnelEnd
tunnel_json plan = asked_of tunnel.Session inside.refused (shown Nothing inside_line no_bodies) plan

-- a function error is told by its refusal alone
abbrev pub mbim_line : MbimEnd → List ℕ
mbim_line (mbim_end.Answer answer) = json_line (answer_json answer)
mbim_line (mbim_end.FunctionError code) = []

abbrev pub mbim_json : MbimPlan → Asked MbimEnd
mbim_json plan = asked_of mbim.Session of_mbim.refused (shown Nothing mbim_line no_bodies) plan
