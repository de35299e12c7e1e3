use Rattle.std.proofs.Common.{◌≡◌, ◌+◌, None, sym, ◌∙◌, ap, Ok, rules}
use Rattle.std.proofs.lemmas.Result.{err_from_is_err_and}
use Rattle.qmi_requests.specs.declared.QmiRequest.TheVariants.{Allocate}
use Rattle.link_session.specs.Hearing.{placed_in}
use Rattle.device_core.specs.Hearing.{failure_in}
use Rattle.device_core.proofs.Allocation.{allocated-some}
use Rattle.session_script.proofs.Going.{Goes-as, Goes-ends}
use Rattle.session_script.specs.Script.{Ends}
use Rattle.request_session.specs.declared.client.Access.{Access}
use Rattle.request_session.specs.Session.{allocated, client_of}
use Rattle.request_session.proofs.Taking.{takes_allocated, takes_given, takes_none}
use Rattle.request_session.proofs.Verdict.{Goes-control_unread, Goes-refused, Goes-succeeded}
use Rattle.request_session.proofs.session.take_client.Goals as goal

pub returns-then-service-eq0-clause-takes : goal.returns-then-service-eq0-clause-takes
returns-then-service-eq0-clause-takes g c = λ heard stands. Goes-as (takes_none c.args.plan.now c.args.number c.if-service-eq0.true) (Goes-ends _ stands)

pub returns-in-Some-clause-takes : goal.returns-in-Some-clause-takes
returns-in-Some-clause-takes g c = λ heard stands. Goes-as (takes_given c.args.plan.now c.args.number c.if-service-eq0.false c.in-Some.is) (Goes-ends _ stands)

pub returns-in_err-reply-clause-takes : goal.returns-in_err-reply-clause-takes
returns-in_err-reply-clause-takes g c = λ heard stands.
    let p = err_from_is_err_and c.from_residual.result c.from_residual.ensures.1 in
    let none : c.args.plan.now.cid ≡ None = search rules in
    rw (p.1, p.2) (Goes-as (takes_allocated c.args.plan.now c.args.number c.if-service-eq0.false none)
    (Goes-control_unread c.args.plan.now.timeout (Allocate c.args.plan.now.request.service) c.args.number (λ message. client_of (allocated message.bytes) (c.args.number + 1)) (c.in_err-reply.ensures.asks heard stands)))

pub returns-in-Some-failure-clause-takes : goal.returns-in-Some-failure-clause-takes
returns-in-Some-failure-clause-takes g c = λ heard stands.
    let none : c.args.plan.now.cid ≡ None = search rules in
    Goes-as (takes_allocated c.args.plan.now c.args.number c.if-service-eq0.false none)
    (Goes-refused c.args.plan.now.timeout (Allocate c.args.plan.now.request.service) c.args.number (λ message. client_of (allocated message.bytes) (c.args.number + 1)) (sym c.failure.ensures ∙ c.in-Some-failure.is) (c.in_ok-reply.ensures.asks heard stands))

pub returns-clause-takes : goal.returns-clause-takes
returns-clause-takes g c = λ heard stands.
    let none : c.args.plan.now.cid ≡ None = search rules in
    let no_failure : failure_in c.in_ok-reply.reply.answer ≡ None = search rules in
    let replies = c.in_ok-reply.ensures.asks heard stands in
    Goes-as (takes_allocated c.args.plan.now c.args.number c.if-service-eq0.false none)
    (Goes-succeeded c.args.plan.now.timeout (Allocate c.args.plan.now.request.service) c.args.number (λ message. client_of (allocated message.bytes) (c.args.number + 1)) no_failure replies (Goes-as (ap (λ (a : Access). Ends (Ok a)) c.allocated_in.ensures) (Goes-ends _ replies.says.2)))

pub allocated_in-requires-clause-allocates : goal.allocated_in-requires-clause-allocates
allocated_in-requires-clause-allocates g c =
    let no_failure : failure_in c.in_ok-reply.reply.answer ≡ None = search rules in
    allocated-some c.args.plan.now.request.service (placed_in c.ask_control.new.incoming c.in_ok-reply.reply.found) c.in_ok-reply.reply.answer no_failure c.in_ok-reply.ensures.given.1
