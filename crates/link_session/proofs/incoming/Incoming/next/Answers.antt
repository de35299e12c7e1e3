use Rattle.std.proofs.Common.{ℕ, [], ◌∷◌, ap, sym, ◌∙◌}
use Rattle.link_session.specs.Marks.{Bad}
use Rattle.link_session.proofs.Hearing.{left-bad, left-message, left-partial}
use Rattle.link_session.proofs.incoming.Incoming.next.Goals as goal

pub returns-in-Whole-clause-next : goal.returns-in-Whole-clause-next
returns-in-Whole-clause-next g c =
    rw (← c.self.view_is, c.self.invariant) (λ heard stands. left-message g.F.Framing.size g.met.F.Framing.kept stands g.met.F.Framing.positive c.in-Whole.ensures.next)

pub returns-in-Bad-clause-next : goal.returns-in-Bad-clause-next
returns-in-Bad-clause-next g c =
    rw (← c.self.view_is)
    (λ heard stands. left-bad g.F.Framing.size g.met.F.Framing.kept stands c.in-Bad.ensures.next.0 ∙ ap (λ (n : ℕ). Bad n ∷ []) (sym c.in-Bad.ensures.next.2))

pub returns-in-NeedMore-clause-next : goal.returns-in-NeedMore-clause-next
returns-in-NeedMore-clause-next g c =
    rw (← c.self.view_is)
    (λ heard stands. (left-partial g.F.Framing.size g.met.F.Framing.kept stands c.in-NeedMore.ensures.next.0, rw c.in-NeedMore.ensures.next.1 stands))
