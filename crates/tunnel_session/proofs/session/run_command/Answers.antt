use Rattle.std.proofs.Common.{◌+◌, Ok, ap}
use Rattle.std.proofs.lemmas.Result.{err_from_is_err_and}
use Rattle.link_session.proofs.Steps.{Step-unread}
use Rattle.tunnel_session.specs.declared.ends.TunnelEnd.{TunnelEnd}
use Rattle.tunnel_session.specs.Session.{ReadsCommand}
use Rattle.tunnel_session.proofs.Steps.{Carries-goes, Carries-refused}
use Rattle.tunnel_session.proofs.session.run_command.Goals as goal

pub returns-in_err-reply-clause-commands : goal.returns-in_err-reply-clause-commands
returns-in_err-reply-clause-commands g c = λ heard stands.
    let p = err_from_is_err_and c.from_residual.result c.from_residual.ensures.1 in
    rw (p.1, p.2) (Step-unread (rw c.command_number.ensures at (c.in_err-reply.ensures.asks heard stands)))

pub returns-in-Message-clause-commands : goal.returns-in-Message-clause-commands
returns-in-Message-clause-commands g c = λ heard stands.
    let replies = rw c.command_number.ensures at (c.in_ok-reply.ensures.asks heard stands) in
    Carries-goes _ _ _ (λ result message later more. ReadsCommand c.args.plan.now c.args.client.id c.args.client.control message (c.args.number + 1) later more result) replies c.read_command.result c.in-Message.message c.in-Message.is
    (rw c.in-Message.message-is at (c.read_command.ensures.reads replies.later replies.says.2))

pub returns-in-Refused-clause-commands : goal.returns-in-Refused-clause-commands
returns-in-Refused-clause-commands g c = λ heard stands.
    let replies = rw c.command_number.ensures at (c.in_ok-reply.ensures.asks heard stands) in
    Carries-refused _ _ _ (λ result message later more. ReadsCommand c.args.plan.now c.args.client.id c.args.client.control message (c.args.number + 1) later more result) replies _ c.in-Refused.is (ap (λ (e : TunnelEnd). Ok e) c.in-Refused.end-is)
