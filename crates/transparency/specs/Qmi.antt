-- How a request to a QMI modem is run twice.
use Rattle.std.specs.Prelude.{◌⊎◌, false, None}
use Rattle.rig_runs.specs.Rig.{device}
use Rattle.qmi_requests.specs.declared.QmiRequest.{QmiRequest}
use Rattle.device_core.specs.declared.plan.QmiPlan.{QmiPlan}
use Rattle.modem_profile.specs.Profile.{default_profile}
use Rattle.relays.specs.QmiLaw as law
use Rattle.relays.specs.QmiRuns.{direct_run, through_run}
use Rattle.printed_ends.specs.declared.printed.Printed.{Printed}
use Rattle.printed_ends.specs.Qmi.{Prints}
use Rattle.transparency.specs.QmiTwice as twice
use Rattle.relays.specs.TunnelRuns.{tunnel_run}
use Rattle.printed_ends.specs.Carried as tunnelled
use Rattle.transparency.specs.Trial.{Trial}

-- how it is planned
abbrev pub plan_of : QmiRequest → QmiPlan
plan_of asked = record { device = device; proxied = false; cid = None; keep = false; timeout = 30; request = asked }

-- through a proxy where the tool is alone
abbrev pub PrintsThrough : QmiRequest → Printed → Type 0
PrintsThrough asked = Prints (through_run default_profile (plan_of asked)).end

-- carried by an MBIM modem
abbrev pub PrintsCarried : QmiRequest → Printed → Type 0
PrintsCarried asked = tunnelled.Prints (plan_of asked) (tunnel_run default_profile (plan_of asked)).end

abbrev pub qmi_trial : Trial QmiRequest
qmi_trial = record {
  PrintsDirect = λ asked. Prints (direct_run default_profile (plan_of asked)).end;
  PrintsSomewhere = λ asked printed. PrintsThrough asked printed ⊎ PrintsCarried asked printed;
  PrintsElsewhere = λ asked printed. PrintsThrough asked printed × PrintsCarried asked printed;
  IsCommand = law.IsCommand;
  run_of = λ asked. twice.run_of default_profile (plan_of asked);
}
