use Rattle.link_session.proofs.Hearing.{Stands-push}
use Rattle.link_session.proofs.incoming.Incoming.push.Goals as goal

pub returns-clause-stands : goal.returns-clause-stands
returns-clause-stands g c =
    rw (← c.self.view_is) (λ heard stands. Stands-push g.F.Framing.size g.met.F.Framing.kept stands g.met.F.Framing.positive _ (rw (← c.self.view_is) at c.requires.partial) _ c.push.ensures.pushed)
