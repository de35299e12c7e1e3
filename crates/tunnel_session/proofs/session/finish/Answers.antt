use Rattle.link_session.proofs.Steps.{Makes-map}
use Rattle.tunnel_session.specs.Session.{keeping, releasing, without}
use Rattle.tunnel_session.proofs.session.finish.Goals as goal

pub returns-then-service-eq0-clause-finishes : goal.returns-then-service-eq0-clause-finishes
returns-then-service-eq0-clause-finishes g c = λ heard stands.
    let is = rw c.service_of-service.ensures at c.if-service-eq0.true in Makes-map (λ calls closes. without is closes) (rw c.ended.ensures at (c.close_with.ensures.closes heard stands))

pub returns-then-plan-clause-finishes : goal.returns-then-plan-clause-finishes
returns-then-plan-clause-finishes g c = λ heard stands.
    let other = rw c.service_of-service.ensures at c.if-service-eq0.false in
    Makes-map (λ calls closes. keeping other c.if-plan.true closes) (rw (c.ended-then-plan.ensures, c.service_of-service.ensures) at (c.close_with-then-plan.ensures.closes heard stands))

pub returns-clause-finishes : goal.returns-clause-finishes
returns-clause-finishes g c = λ heard stands.
    let other = rw c.service_of-service.ensures at c.if-service-eq0.false in
    Makes-map (λ calls step. releasing other c.if-plan.false step) (c.release.ensures.releases heard stands)
