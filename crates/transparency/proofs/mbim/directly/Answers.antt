use Rattle.std.proofs.Common.{subst}
use Rattle.mbim_frame.specs.Frame.{size_of}
use Rattle.modem_profile.specs.Profile.{Profile}
use Rattle.mbim_session.specs.Peer.{session_at}
use Rattle.lone_client.specs.Relay.{asked_by}
use Rattle.relays.specs.MbimRuns.{simulated_modem}
use Rattle.printed_ends.specs.Held.{IsHeld}
use Rattle.transparency.specs.Peers.{at_modem}
use Rattle.printed_ends.specs.Mbim.{Prints}
use Rattle.transparency.proofs.mbim.directly.Goals as goal

pub hold_mbim-requires : goal.hold_mbim-requires
unfolding asked_by
hold_mbim-requires c = c.in_ok-modem.ensures.met

pub returns-clause-held : goal.returns-clause-held
returns-clause-held c = subst (λ (p : Profile). IsHeld Prints (session_at (at_modem size_of (simulated_modem p)) c.args.plan.now) c.in_ok-held.held) c.in_ok-modem.ensures.profile c.in_ok-held.ensures
