use Rattle.std.proofs.Common.{Ok, Err, refl}
use Rattle.std.proofs.lemmas.Result.{err_from_is_err_and}
use Rattle.link_session.proofs.Steps.{Makes-map}
use Rattle.table_requests.proofs.session.table_session.Goals as goal

pub returns-in_err-end-clause-session : goal.returns-in_err-end-clause-session
returns-in_err-end-clause-session g c =
    let p = err_from_is_err_and c.from_residual.result c.from_residual.ensures.1 in
    rw (p.1, p.2) (Makes-map (λ calls performs. record { ended = Err c.in_err-end.field-0.0; performs = performs; ends = refl }) (rw c.session.ensures.same at c.in_err-end.ensures.session))

pub returns-in_err-shown-clause-session : goal.returns-in_err-shown-clause-session
returns-in_err-shown-clause-session g c =
    let p = err_from_is_err_and c.from_residual-in_err-shown.result c.from_residual-in_err-shown.ensures.1 in
    rw (p.1, p.2) (Makes-map (λ calls performs. record { ended = Ok c.in_ok-end.end; performs = performs; ends = refl }) (rw c.session.ensures.same at c.in_ok-end.ensures.session))

pub returns-clause-session : goal.returns-clause-session
returns-clause-session g c =
    Makes-map (λ calls performs. record { ended = Ok c.in_ok-end.end; performs = performs; ends = c.in_ok-shown.ensures }) (rw c.session.ensures.same at c.in_ok-end.ensures.session)
