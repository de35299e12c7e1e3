-- How a request to an MBIM modem is run twice.
use Rattle.std.specs.Prelude.{false, true}
use Rattle.rig_runs.specs.Rig.{device}
use Rattle.mbim_requests.specs.declared.MbimRequest.{MbimRequest}
use Rattle.mbim_session.specs.declared.plan.MbimPlan.{MbimPlan}
use Rattle.modem_profile.specs.Profile.{default_profile}
use Rattle.relays.specs.MbimLaw as law
use Rattle.relays.specs.MbimRuns.{direct_run, through_run}
use Rattle.printed_ends.specs.Mbim.{Prints}
use Rattle.transparency.specs.MbimTwice as twice
use Rattle.transparency.specs.Trial.{Trial}

-- how it is planned
abbrev pub plan_of : MbimRequest → MbimPlan
plan_of asked = record { device = device; proxied = false; close = true; timeout = 30; request = asked }

abbrev pub mbim_trial : Trial MbimRequest
mbim_trial = record {
  PrintsDirect = λ asked. Prints (direct_run default_profile (plan_of asked)).end;
  PrintsSomewhere = λ asked. Prints (through_run default_profile (plan_of asked)).end;
  PrintsElsewhere = λ asked. Prints (through_run default_profile (plan_of asked)).end;
  IsCommand = law.IsCommand;
  run_of = λ asked. twice.run_of default_profile (plan_of asked);
}
