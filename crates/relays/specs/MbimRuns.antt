-- The plan of an MBIM tool at a fresh simulated modem itself, and through a proxy of the plan's device where the tool is alone.
use Rattle.std.specs.Prelude.{ℕ, List}
use Rattle.link_session.specs.Peer.{Finish}
use Rattle.proxy_history.specs.Events.{Event}
use Rattle.mbim_session.specs.declared.plan.MbimPlan.{MbimPlan}
use Rattle.mbim_session.specs.Peer.{LastWord}
use Rattle.lone_client.specs.Relay.{Answering, Cast}
use Rattle.lone_client.specs.MbimLaw as lone
use Rattle.twin_sessions.specs.MbimRuns as twin
use Rattle.modem_profile.specs.Profile.{Profile}
use Rattle.sim_modem.specs.Sim.{answers}
use Rattle.sim_mbim.specs.Answers.{machine}

-- how long the proxy waits for an answer, in milliseconds
abbrev pub time_limit : ℕ
time_limit = 30000

abbrev pub simulated_modem : Profile → Answering
simulated_modem profile = answers (machine profile)

-- the proxy's device is the plan's
abbrev pub simulated : Profile → MbimPlan → Cast
simulated profile plan = lone.cast plan.device time_limit (simulated_modem profile)

abbrev pub direct_run : Profile → MbimPlan → Finish LastWord
direct_run profile plan = twin.direct_run (simulated profile plan) plan

abbrev pub through_run : Profile → MbimPlan → Finish LastWord
through_run profile plan = twin.through_run (simulated profile plan) plan

-- what the proxy meets
abbrev pub relay : Profile → MbimPlan → List Event
relay profile plan = twin.met (simulated profile plan) plan
