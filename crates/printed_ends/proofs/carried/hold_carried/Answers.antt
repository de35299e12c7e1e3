use Rattle.std.proofs.Common.{subst, sym}
use Rattle.tunnel_session.specs.Peer.{EndsWith, tunnel_at}
use Rattle.tunnel_session.specs.Session.{Session}
use Rattle.tunnel_session.proofs.Peers.{sessions_end_as_at_peers}
use Rattle.printed_ends.specs.Held.{IsHeld}
use Rattle.printed_ends.proofs.Holding.{is_held}
use Rattle.printed_ends.specs.Carried.{IsOf, Prints, refusal_of, text_of}
use Rattle.printed_ends.proofs.carried.hold_carried.Goals as goal

pub returns : goal.returns
returns g c =
    let a = g.A.Answerer in
    let plan = c.args.plan.now in
    subst (λ who. IsHeld (Prints plan) (tunnel_at (a.peer who) plan) c.in_ok-held.held) c.to-link.ensures.answerer
    (is_held (Session plan) (λ peer. tunnel_at peer plan) (λ end word. EndsWith end word plan) (λ peer calls end. sessions_end_as_at_peers peer plan calls end) a.peer a.named g.met.A.Answerer.named_behind g.met.A.Answerer.naming text_of refusal_of
    c.to-link.result c.tunnel_session-end.new.link c.to-link.ensures.recorded c.tunnel_session-end.ensures.session c.in_ok-held.ensures.told c.in_ok-printed.ensures.by_peer
    (subst (IsOf c.tunnel_session-end.result) (sym c.in_ok-held.ensures.printed) c.in_ok-printed.ensures.printed))
