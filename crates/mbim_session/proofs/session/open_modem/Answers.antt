use Rattle.std.proofs.Common.{◌≡◌, Some, None, refl, rules}
use Rattle.std.proofs.lemmas.Result.{err_from_is_err_and}
use Rattle.link_session.proofs.Steps.{Makes-map, Makes-none, Step-read, Step-unread}
use Rattle.mbim_session.proofs.Steps.{UnlessRefused-none}
use Rattle.mbim_session.proofs.session.open_modem.Goals as goal

pub returns-in_err-reply-clause-opens : goal.returns-in_err-reply-clause-opens
returns-in_err-reply-clause-opens g c = λ heard stands.
    let p = err_from_is_err_and c.from_residual.result c.from_residual.ensures.1 in rw (p.1, p.2) (Step-unread (c.in_err-reply.ensures.asks heard stands))

pub returns-in-Some-clause-opens : goal.returns-in-Some-clause-opens
returns-in-Some-clause-opens g c = λ heard stands.
    let some : c.in_ok-reply.reply.answer ≡ Some c.in-Some.refusal = c.in-Some.is in
    Step-read (c.in_ok-reply.ensures.asks heard stands) (Makes-none _ (rw some (refl, refl)))

pub returns-clause-opens : goal.returns-clause-opens
returns-clause-opens g c = λ heard stands.
    let replies = c.in_ok-reply.ensures.asks heard stands in
    let none : c.in_ok-reply.reply.answer ≡ None = search rules in
    Step-read replies (Makes-map (λ calls commands. UnlessRefused-none _ _ none commands) (c.run_command.ensures.commands replies.later replies.says.2))
