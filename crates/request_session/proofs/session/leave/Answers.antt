use Rattle.std.proofs.lemmas.Result.{err_from_is_err_and}
use Rattle.link_session.specs.Hearing.{placed_in}
use Rattle.session_script.proofs.Going.{Goes-answered, Goes-as, Goes-ends, Goes-unanswered}
use Rattle.request_session.proofs.Leaving.{leaves_none, leaves_kept, leaves_released, released-framed, released-unframed}
use Rattle.request_session.proofs.session.leave.Goals as goal

pub returns-then-service-eq0-clause-leaves : goal.returns-then-service-eq0-clause-leaves
returns-then-service-eq0-clause-leaves g c = λ heard stands. Goes-as (leaves_none c.args.plan.now c.args.client c.if-service-eq0.true) (Goes-ends _ stands)

pub returns-then-plan-clause-leaves : goal.returns-then-plan-clause-leaves
returns-then-plan-clause-leaves g c = λ heard stands. Goes-as (leaves_kept c.args.plan.now c.args.client c.if-service-eq0.false c.if-plan.true) (Goes-ends _ stands)

pub returns-in_err-found-clause-leaves : goal.returns-in_err-found-clause-leaves
returns-in_err-found-clause-leaves g c = λ heard stands.
    let p = err_from_is_err_and c.from_residual.result c.from_residual.ensures.1 in
    rw (p.1, p.2) (Goes-as (leaves_released c.args.plan.now c.args.client c.if-service-eq0.false c.if-plan.false) (Goes-unanswered (c.in_err-found.ensures.asks heard stands)))

pub returns-then-not-read-clause-leaves : goal.returns-then-not-read-clause-leaves
returns-then-not-read-clause-leaves g c = λ heard stands.
    let asks = c.in_ok-found.ensures.asks heard stands in
    Goes-as (leaves_released c.args.plan.now c.args.client c.if-service-eq0.false c.if-plan.false)
    (Goes-answered asks (Goes-as (released-unframed (placed_in c.release.new.incoming c.in_ok-found.found) c.read.ensures c.bytes.ensures c.if-not-read.true) (Goes-ends _ asks.answered.stands)))

pub returns-clause-leaves : goal.returns-clause-leaves
returns-clause-leaves g c = λ heard stands.
    let asks = c.in_ok-found.ensures.asks heard stands in
    Goes-as (leaves_released c.args.plan.now c.args.client c.if-service-eq0.false c.if-plan.false)
    (Goes-answered asks (Goes-as (released-framed (placed_in c.release.new.incoming c.in_ok-found.found) c.read.ensures c.bytes.ensures c.if-not-read.false) (Goes-ends _ asks.answered.stands)))
