use Rattle.std.proofs.Common.{◌≡◌, ℕ, List, subst, rules}
use Rattle.std.specs.Str.{encode_utf8_all}
use Rattle.kit_bytes.specs.declared.kind.Kind.TheVariants.{Mbim}
use Rattle.mbim_frame.specs.Frame.{size_of}
use Rattle.modem_profile.specs.Profile.{Profile}
use Rattle.mbim_session.specs.Peer.{session_at}
use Rattle.lone_client.specs.Relay.{through}
use Rattle.relays.specs.MbimRuns.{simulated_modem}
use Rattle.printed_ends.specs.Held.{IsHeld}
use Rattle.transparency.specs.Peers.{cast_of}
use Rattle.printed_ends.specs.Mbim.{Prints}
use Rattle.transparency.proofs.mbim.behind_proxy.Goals as goal

pub returns : goal.returns
returns c =
    let plan = c.args.plan.now in
    let device : c.in_ok-proxy.proxy.device ≡ encode_utf8_all plan.device = search rules in
    subst (λ (d : List ℕ). IsHeld Prints (session_at (through (cast_of Mbim d size_of (simulated_modem c.args.profile.now))) plan) c.in_ok-held.held) device
    (subst (λ (p : Profile). IsHeld Prints (session_at (through (cast_of Mbim c.in_ok-proxy.proxy.device size_of (simulated_modem p))) plan) c.in_ok-held.held) c.in_ok-proxy.ensures.profile c.in_ok-held.ensures)
