use Rattle.std.proofs.lemmas.Result.{err_from_is_err_and}
use Rattle.link_session.proofs.Steps.{Step-read, Step-unread}
use Rattle.device_core.proofs.session.run_command.Goals as goal

pub returns-in_err-reply-clause-commands : goal.returns-in_err-reply-clause-commands
returns-in_err-reply-clause-commands g c = λ heard stands.
    let p = err_from_is_err_and c.from_residual.result c.from_residual.ensures.1 in
    rw (p.1, p.2) (Step-unread (rw c.command_number.ensures at (c.in_err-reply.ensures.asks heard stands)))

pub returns-clause-commands : goal.returns-clause-commands
returns-clause-commands g c = λ heard stands.
    let replies = rw c.command_number.ensures at (c.in_ok-reply.ensures.asks heard stands) in Step-read replies (c.finish.ensures.finishes replies.later replies.says.2)
