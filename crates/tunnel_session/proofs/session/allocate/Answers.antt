use Rattle.std.proofs.Common.{◌+◌, Ok, ap}
use Rattle.std.proofs.lemmas.Result.{err_from_is_err_and}
use Rattle.link_session.proofs.Steps.{Step-unread}
use Rattle.tunnel_session.specs.declared.ends.TunnelEnd.{TunnelEnd}
use Rattle.tunnel_session.specs.Session.{TakesClient}
use Rattle.tunnel_session.proofs.Steps.{Carries-goes, Carries-refused}
use Rattle.tunnel_session.proofs.session.allocate.Goals as goal

pub returns-in_err-reply-clause-allocates : goal.returns-in_err-reply-clause-allocates
returns-in_err-reply-clause-allocates g c = λ heard stands.
    let p = err_from_is_err_and c.from_residual.result c.from_residual.ensures.1 in rw (p.1, p.2) (Step-unread (c.in_err-reply.ensures.asks heard stands))

pub returns-in-Message-clause-allocates : goal.returns-in-Message-clause-allocates
returns-in-Message-clause-allocates g c = λ heard stands.
    let replies = c.in_ok-reply.ensures.asks heard stands in
    Carries-goes _ _ _ (λ result message later more. TakesClient c.args.plan.now c.args.service message (c.args.number + 1) later more result) replies c.take_client.result c.in-Message.message c.in-Message.is (rw c.in-Message.message-is at (c.take_client.ensures.takes replies.later replies.says.2))

pub returns-in-Refused-clause-allocates : goal.returns-in-Refused-clause-allocates
returns-in-Refused-clause-allocates g c = λ heard stands.
    Carries-refused _ _ _ (λ result message later more. TakesClient c.args.plan.now c.args.service message (c.args.number + 1) later more result) (c.in_ok-reply.ensures.asks heard stands) _ c.in-Refused.is (ap (λ (e : TunnelEnd). Ok e) c.in-Refused.end-is)
