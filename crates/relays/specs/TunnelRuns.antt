-- The plan of a QMI tool at a fresh simulated MBIM modem that carries QMI messages.
use Rattle.std.specs.Prelude.{false}
use Rattle.link_session.specs.Peer.{Finish}
use Rattle.device_core.specs.declared.plan.QmiPlan.{QmiPlan}
use Rattle.lone_client.specs.Relay.{Answering, Cast, directly}
use Rattle.lone_client.specs.MbimLaw as lone
use Rattle.modem_profile.specs.Profile.{Profile}
use Rattle.sim_modem.specs.Sim.{answers}
use Rattle.sim_tunnel.specs.Carrying.{machine}
use Rattle.relays.specs.QmiRuns.{setup_of}
use Rattle.tunnel_session.specs.Peer.{LastWord, tunnel_at}

abbrev pub carrying_modem : Profile → Answering
carrying_modem profile = answers (machine profile)

abbrev pub simulated : Profile → QmiPlan → Cast
simulated profile plan = lone.cast plan.device (setup_of plan).time_limit (carrying_modem profile)

-- the tool is at the modem itself, and not at a proxy
abbrev pub tunnel_run : Profile → QmiPlan → Finish LastWord
tunnel_run profile plan = tunnel_at (directly (simulated profile plan)) (record plan { proxied = false })
