use Rattle.std.proofs.lemmas.Result.{err_from_is_err_and}
use Rattle.session_script.proofs.Going.{Goes-behind, Goes-behind_fails, Goes-ends}
use Rattle.request_session.proofs.session.ask.Goals as goal

pub returns-in_err-answer-clause-asks : goal.returns-in_err-answer-clause-asks
returns-in_err-answer-clause-asks g c = λ heard stands.
    let p = err_from_is_err_and c.from_residual.result c.from_residual.ensures.1 in rw (p.1, p.2) (Goes-behind_fails _ (c.in_err-answer.ensures.requests heard stands))

pub returns-in_err-kept-clause-asks : goal.returns-in_err-kept-clause-asks
returns-in_err-kept-clause-asks g c = λ heard stands.
    let p = err_from_is_err_and c.from_residual-in_err-kept.result c.from_residual-in_err-kept.ensures.1 in
    rw (p.1, p.2) (Goes-behind _ (c.in_ok-answer.ensures.requests heard stands) (λ now there. Goes-behind_fails _ (c.in_err-kept.ensures.leaves now there)))

pub returns-clause-asks : goal.returns-clause-asks
returns-clause-asks g c = λ heard stands.
    Goes-behind _ (c.in_ok-answer.ensures.requests heard stands) (λ now there. Goes-behind _ (c.in_ok-kept.ensures.leaves now there) (λ end here. Goes-ends _ here))
