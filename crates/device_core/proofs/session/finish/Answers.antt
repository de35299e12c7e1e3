use Rattle.std.proofs.Common.{refl}
use Rattle.std.proofs.lemmas.Result.{err_from_is_err_and}
use Rattle.link_session.specs.Hearing.{placed_in}
use Rattle.device_core.specs.Session.{releasing}
use Rattle.link_session.proofs.Steps.{Makes-map, Makes-none, Step-fails, Step-goes}
use Rattle.device_core.proofs.Steps.{end-framed, end-unframed}
use Rattle.device_core.proofs.session.finish.Goals as goal

pub returns-in_err-found-clause-finishes : goal.returns-in_err-found-clause-finishes
returns-in_err-found-clause-finishes g c = λ heard stands.
    let p = err_from_is_err_and c.from_residual.result c.from_residual.ensures.1 in
    let other = rw c.service_of-service.ensures at c.if-service-eq0.false in
    let asked = rw c.service_of-service.ensures at (c.in_err-found.ensures.asks heard stands) in
    rw (p.1, p.2) (Makes-map (λ calls step. releasing other c.if-plan.false step) (Step-fails asked))

pub returns-then-not-read-clause-finishes : goal.returns-then-not-read-clause-finishes
returns-then-not-read-clause-finishes g c = λ heard stands.
    let other = rw c.service_of-service.ensures at c.if-service-eq0.false in
    let asked = rw c.service_of-service.ensures at (c.in_ok-found.ensures.asks heard stands) in
    Makes-map (λ calls step. releasing other c.if-plan.false step) (Step-goes asked (Makes-none _ (refl, end-unframed (placed_in c.release.new.incoming c.in_ok-found.found) c.read.ensures c.bytes.ensures _ c.if-not-read.true)))

pub returns-clause-finishes : goal.returns-clause-finishes
returns-clause-finishes g c = λ heard stands.
    let other = rw c.service_of-service.ensures at c.if-service-eq0.false in
    let asked = rw c.service_of-service.ensures at (c.in_ok-found.ensures.asks heard stands) in
    Makes-map (λ calls step. releasing other c.if-plan.false step) (Step-goes asked (Makes-none _ (refl, end-framed (placed_in c.release.new.incoming c.in_ok-found.found) c.read.ensures c.bytes.ensures _ c.if-not-read.false)))
