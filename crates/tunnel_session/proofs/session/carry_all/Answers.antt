use Rattle.std.proofs.Common.{◌≡◌, None, sym, ◌∙◌, rules}
use Rattle.std.proofs.lemmas.Result.{err_from_is_err_and}
use Rattle.link_session.specs.Waiting.{nothing_heard}
use Rattle.link_session.proofs.Steps.{Makes-map, Step-unread}
use Rattle.tunnel_session.specs.Session.{direct, proxied, refusal_in}
use Rattle.mbim_session.proofs.Steps.{Step-granted, Step-refused}
use Rattle.tunnel_session.proofs.session.carry_all.Goals as goal

pub returns-then-not-plan-clause-session : goal.returns-then-not-plan-clause-session
returns-then-not-plan-clause-session g c = λ stands.
    Makes-map (λ calls opens. direct c.if-not-plan.true opens) (c.open_modem.ensures.opens nothing_heard stands)

pub returns-in_err-configured-clause-session : goal.returns-in_err-configured-clause-session
returns-in_err-configured-clause-session g c = λ stands.
    let p = err_from_is_err_and c.from_residual.result c.from_residual.ensures.1 in
    let replies = c.in_err-configured.ensures.asks nothing_heard stands in
    rw (p.1, p.2) (Makes-map (λ calls step. proxied c.if-not-plan.false step) (Step-unread replies))

pub returns-in-Some-clause-session : goal.returns-in-Some-clause-session
returns-in-Some-clause-session g c = λ stands.
    let replies = c.in_ok-configured.ensures.asks nothing_heard stands in
    Makes-map (λ calls step. proxied c.if-not-plan.false step) (Step-refused refusal_in replies _ (sym c.refusal.ensures ∙ c.in-Some.is))

pub returns-clause-session : goal.returns-clause-session
returns-clause-session g c = λ stands.
    let replies = c.in_ok-configured.ensures.asks nothing_heard stands in
    let none : refusal_in c.in_ok-configured.configured.answer ≡ None = search rules in
    Makes-map (λ calls step. proxied c.if-not-plan.false step) (Step-granted refusal_in replies _ none (c.open_modem-2.ensures.opens replies.later replies.says.2))
