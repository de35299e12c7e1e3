use Rattle.std.proofs.Common.{◌≡◌, ℕ, List, subst, rules}
use Rattle.std.specs.Str.{encode_utf8_all}
use Rattle.kit_bytes.specs.declared.kind.Kind.TheVariants.{Qmi}
use Rattle.qmux_frame.specs.Frame.{size_of}
use Rattle.modem_profile.specs.Profile.{Profile}
use Rattle.sim_modem.specs.Sim.{answers}
use Rattle.sim_qmi.specs.Modem.{machine}
use Rattle.device_core.specs.Peer.{session_at}
use Rattle.lone_client.specs.Relay.{through}
use Rattle.printed_ends.specs.Held.{IsHeld}
use Rattle.transparency.specs.Peers.{cast_of}
use Rattle.printed_ends.specs.Qmi.{Prints}
use Rattle.transparency.proofs.qmi.behind_proxy.Goals as goal

pub returns : goal.returns
returns c =
    let plan = c.args.plan.now in
    let device : c.in_ok-proxy.proxy.device ≡ encode_utf8_all plan.device = search rules in
    subst (λ (d : List ℕ). IsHeld Prints (session_at (through (cast_of Qmi d size_of (answers (machine c.args.profile.now)))) plan) c.in_ok-held.held) device
    (subst (λ (p : Profile). IsHeld Prints (session_at (through (cast_of Qmi c.in_ok-proxy.proxy.device size_of (answers (machine p)))) plan) c.in_ok-held.held) c.in_ok-proxy.ensures.profile c.in_ok-held.ensures)
