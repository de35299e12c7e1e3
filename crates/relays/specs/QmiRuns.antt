-- The plan of a tool at a fresh simulated modem itself, and through a proxy of the plan's device where the tool is alone.
use Rattle.std.specs.Prelude.{false, List, None}
use Rattle.std.specs.Str.{encode_utf8_all}
use Rattle.link_session.specs.Peer.{Finish}
use Rattle.proxy_history.specs.Events.{Event}
use Rattle.qmi_proxy.specs.Setup.{Setup}
use Rattle.device_core.specs.declared.plan.QmiPlan.{QmiPlan}
use Rattle.device_core.specs.Peer.{LastWord}
use Rattle.lone_client.specs.Relay.{Cast}
use Rattle.lone_client.specs.QmiLaw.{cast_of}
use Rattle.twin_sessions.specs.QmiRuns as twin
use Rattle.modem_profile.specs.Profile.{Profile}
use Rattle.sim_modem.specs.Sim.{answers}
use Rattle.sim_qmi.specs.Modem.{machine}

-- the proxy's device is the plan's
abbrev pub setup_of : QmiPlan → Setup
setup_of plan = record { device = encode_utf8_all plan.device; time_limit = 30000; starts_away = false; release = None }

abbrev pub simulated : Profile → QmiPlan → Cast
simulated profile plan = cast_of (setup_of plan) (answers (machine profile))

abbrev pub direct_run : Profile → QmiPlan → Finish LastWord
direct_run profile plan = twin.direct_run (simulated profile plan) plan

abbrev pub through_run : Profile → QmiPlan → Finish LastWord
through_run profile plan = twin.through_run (simulated profile plan) plan

-- what the proxy meets
abbrev pub relay : Profile → QmiPlan → List Event
relay profile plan = twin.met (simulated profile plan) plan
