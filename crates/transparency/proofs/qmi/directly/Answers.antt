use Rattle.std.proofs.Common.{subst}
use Rattle.qmux_frame.specs.Frame.{size_of}
use Rattle.modem_profile.specs.Profile.{Profile}
use Rattle.sim_modem.specs.Sim.{answers}
use Rattle.sim_qmi.specs.Modem.{machine}
use Rattle.device_core.specs.Peer.{session_at}
use Rattle.lone_client.specs.Relay.{asked_by}
use Rattle.transparency.specs.Peers.{at_modem}
use Rattle.printed_ends.specs.Held.{IsHeld}
use Rattle.printed_ends.specs.Qmi.{Prints}
use Rattle.transparency.proofs.qmi.directly.Goals as goal

pub hold_qmi-requires : goal.hold_qmi-requires
unfolding asked_by
hold_qmi-requires c = c.in_ok-modem.ensures.met

pub returns-clause-held : goal.returns-clause-held
returns-clause-held c = subst (λ (p : Profile). IsHeld Prints (session_at (at_modem size_of (answers (machine p))) c.args.plan.now) c.in_ok-held.held) c.in_ok-modem.ensures.profile c.in_ok-held.ensures
