use Rattle.std.proofs.Common.{sym, ◌∙◌}
use Rattle.std.proofs.lemmas.Result.{err_from_is_err_and}
use Rattle.qmi_requests.specs.declared.QmiRequest.TheVariants.{ProxyOpen}
use Rattle.session_script.proofs.Going.{Goes-as, Goes-no_memory}
use Rattle.request_session.specs.Session.{take_client}
use Rattle.request_session.proofs.Taking.{reaches_by_proxy, reaches_directly}
use Rattle.request_session.proofs.Verdict.{Goes-control_unread, Goes-refused, Goes-succeeded}
use Rattle.request_session.proofs.session.reach.Goals as goal

pub returns-then-not-plan-clause-reaches : goal.returns-then-not-plan-clause-reaches
returns-then-not-plan-clause-reaches g c = λ heard stands. Goes-as (reaches_directly c.args.plan.now c.if-not-plan.true) (c.take_client.ensures.takes heard stands)

pub returns-in_err-copy-clause-reaches : goal.returns-in_err-copy-clause-reaches
returns-in_err-copy-clause-reaches g c = λ heard stands. let p = err_from_is_err_and c.from_residual.result c.from_residual.ensures.1 in rw (p.1, p.2) (Goes-no_memory _ _)

pub returns-in_err-reply-clause-reaches : goal.returns-in_err-reply-clause-reaches
returns-in_err-reply-clause-reaches g c = λ heard stands.
    let p = err_from_is_err_and c.from_residual-in_err-reply.result c.from_residual-in_err-reply.ensures.1 in
    let replies = rw c.in_ok-copy.ensures at (c.in_err-reply.ensures.asks heard stands) in
    rw (p.1, p.2) (Goes-as (reaches_by_proxy c.args.plan.now c.if-not-plan.false) (Goes-control_unread c.args.plan.now.timeout (ProxyOpen c.args.plan.now.device) 1 (λ message. take_client c.args.plan.now 2) replies))

pub returns-in-Some-clause-reaches : goal.returns-in-Some-clause-reaches
returns-in-Some-clause-reaches g c = λ heard stands.
    let replies = rw c.in_ok-copy.ensures at (c.in_ok-reply.ensures.asks heard stands) in
    Goes-as (reaches_by_proxy c.args.plan.now c.if-not-plan.false) (Goes-refused c.args.plan.now.timeout (ProxyOpen c.args.plan.now.device) 1 (λ message. take_client c.args.plan.now 2) (sym c.failure.ensures ∙ c.in-Some.is) replies)

pub returns-clause-reaches : goal.returns-clause-reaches
returns-clause-reaches g c = λ heard stands.
    let replies = rw c.in_ok-copy.ensures at (c.in_ok-reply.ensures.asks heard stands) in
    Goes-as (reaches_by_proxy c.args.plan.now c.if-not-plan.false)
    (Goes-succeeded c.args.plan.now.timeout (ProxyOpen c.args.plan.now.device) 1 (λ message. take_client c.args.plan.now 2) (sym c.failure.ensures ∙ c.in-None.is) replies (c.take_client-in-None.ensures.takes replies.later replies.says.2))
