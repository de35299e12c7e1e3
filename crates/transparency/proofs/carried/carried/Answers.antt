use Rattle.std.proofs.Common.{subst}
use Rattle.mbim_frame.specs.Frame.{size_of}
use Rattle.modem_profile.specs.Profile.{Profile}
use Rattle.tunnel_session.specs.Peer.{tunnel_at}
use Rattle.relays.specs.TunnelRuns.{carrying_modem}
use Rattle.lone_client.specs.Relay.{asked_by}
use Rattle.transparency.specs.Peers.{at_modem}
use Rattle.printed_ends.specs.Held.{IsHeld}
use Rattle.printed_ends.specs.Carried.{Prints}
use Rattle.transparency.proofs.carried.carried.Goals as goal

pub hold_carried-requires : goal.hold_carried-requires
unfolding asked_by
hold_carried-requires c = c.in_ok-carrier.ensures.met

pub returns : goal.returns
returns c = subst (λ (p : Profile). IsHeld (Prints c.args.plan.now) (tunnel_at (at_modem size_of (carrying_modem p)) c.args.plan.now) c.in_ok-held.held) c.in_ok-carrier.ensures.profile c.in_ok-held.ensures
