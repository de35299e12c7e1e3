use Rattle.std.proofs.Common.{◌≡◌, None, sym, ◌∙◌, ap, Ok, rules}
use Rattle.std.proofs.lemmas.Result.{err_from_is_err_and}
use Rattle.qmi_services.specs.declared.answers.QmiEnd.{QmiEnd}
use Rattle.link_session.specs.Hearing.{placed_in}
use Rattle.device_core.specs.Hearing.{failure_in}
use Rattle.device_core.specs.Session.{allocating, control, given}
use Rattle.device_core.proofs.Allocation.{allocated-some}
use Rattle.link_session.proofs.Steps.{Makes-map, Makes-none, Step-read, Step-unread}
use Rattle.device_core.proofs.Steps.{OnSuccess-failure, OnSuccess-none}
use Rattle.device_core.proofs.session.choose_cid.Goals as goal

pub returns-then-service-eq0-clause-chooses : goal.returns-then-service-eq0-clause-chooses
returns-then-service-eq0-clause-chooses g c = λ heard stands.
    let is = rw c.service_of-service.ensures at c.if-service-eq0.true in Makes-map (λ calls commands. control is commands) (c.run_command.ensures.commands heard stands)

pub returns-in-Some-clause-chooses : goal.returns-in-Some-clause-chooses
returns-in-Some-clause-chooses g c = λ heard stands.
    let other = rw c.service_of-service.ensures at c.if-service-eq0.false in
    Makes-map (λ calls commands. given c.in-Some.cid other c.in-Some.is commands) (c.run_command-in-Some.ensures.commands heard stands)

pub returns-in_err-reply-clause-chooses : goal.returns-in_err-reply-clause-chooses
returns-in_err-reply-clause-chooses g c = λ heard stands.
    let p = err_from_is_err_and c.from_residual.result c.from_residual.ensures.1 in
    let other = rw c.service_of-service.ensures at c.if-service-eq0.false in
    let none : c.args.plan.now.cid ≡ None = search rules in
    let replies = rw c.service_of-service.ensures at (c.in_err-reply.ensures.asks heard stands) in
    rw (p.1, p.2) (Makes-map (λ calls step. allocating other none step) (Step-unread replies))

pub returns-in-Some-failure-clause-chooses : goal.returns-in-Some-failure-clause-chooses
returns-in-Some-failure-clause-chooses g c = λ heard stands.
    let other = rw c.service_of-service.ensures at c.if-service-eq0.false in
    let none : c.args.plan.now.cid ≡ None = search rules in
    let replies = rw c.service_of-service.ensures at (c.in_ok-reply.ensures.asks heard stands) in
    let failure = sym c.failure.ensures ∙ c.in-Some-failure.is in
    Makes-map (λ calls step. allocating other none step) (Step-read replies (Makes-none _ (OnSuccess-failure _ _ failure (ap (λ (e : QmiEnd). Ok e) c.failed.ensures))))

pub returns-clause-chooses : goal.returns-clause-chooses
returns-clause-chooses g c = λ heard stands.
    let other = rw c.service_of-service.ensures at c.if-service-eq0.false in
    let none : c.args.plan.now.cid ≡ None = search rules in
    let replies = rw c.service_of-service.ensures at (c.in_ok-reply.ensures.asks heard stands) in
    let no_failure : failure_in c.in_ok-reply.reply.answer ≡ None = search rules in
    Makes-map (λ calls step. allocating other none step)
    (Step-read replies (Makes-map (λ more commands. OnSuccess-none _ _ _ no_failure commands) (c.run_allocated.ensures.commands replies.later replies.says.2)))

pub run_allocated-requires-clause-allocates : goal.run_allocated-requires-clause-allocates
run_allocated-requires-clause-allocates g c =
    let no_failure : failure_in c.in_ok-reply.reply.answer ≡ None = search rules in
    allocated-some c.service_of-service.result (placed_in c.allocate.new.incoming c.in_ok-reply.reply.found) c.in_ok-reply.reply.answer no_failure c.in_ok-reply.ensures.given.1
