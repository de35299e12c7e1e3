use Rattle.std.proofs.Common.{◌≡◌, None, sym, ◌∙◌, rules}
use Rattle.std.specs.Prelude.{option_and_then}
use Rattle.std.proofs.lemmas.Result.{err_from_is_err_and}
use Rattle.link_session.proofs.Steps.{Makes-map, Makes-none, Step-read, Step-unread}
use Rattle.tunnel_session.specs.Session.{refusal_in}
use Rattle.mbim_session.proofs.Steps.{UnlessRefused-none, UnlessRefused-some}
use Rattle.tunnel_session.proofs.session.open_modem.Goals as goal

pub returns-in_err-reply-clause-opens : goal.returns-in_err-reply-clause-opens
returns-in_err-reply-clause-opens g c = λ heard stands.
    let p = err_from_is_err_and c.from_residual.result c.from_residual.ensures.1 in rw (p.1, p.2) (Step-unread (c.in_err-reply.ensures.asks heard stands))

pub returns-in-Some-clause-opens : goal.returns-in-Some-clause-opens
returns-in-Some-clause-opens g c = λ heard stands. Step-read (c.in_ok-reply.ensures.asks heard stands) (Makes-none _ (UnlessRefused-some _ (sym c.refusal_of_open.ensures ∙ c.in-Some.is)))

pub returns-clause-opens : goal.returns-clause-opens
returns-clause-opens g c = λ heard stands.
    let replies = c.in_ok-reply.ensures.asks heard stands in
    let none : option_and_then refusal_in c.in_ok-reply.reply.answer ≡ None = search rules in
    Step-read replies (Makes-map (λ calls chooses. UnlessRefused-none _ _ none chooses) (c.choose_client.ensures.chooses replies.later replies.says.2))
