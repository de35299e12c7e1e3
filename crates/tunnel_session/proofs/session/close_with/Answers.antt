use Rattle.std.proofs.Common.{refl}
use Rattle.std.proofs.lemmas.Result.{err_from_is_err_and}
use Rattle.link_session.proofs.Steps.{Makes-none, Step-fails, Step-goes}
use Rattle.tunnel_session.proofs.session.close_with.Goals as goal

pub returns-in_err-close-clause-closes : goal.returns-in_err-close-clause-closes
returns-in_err-close-clause-closes g c = λ heard stands.
    let p = err_from_is_err_and c.from_residual.result c.from_residual.ensures.1 in rw (p.1, p.2) (Step-fails (c.in_err-close.ensures.asks heard stands))

pub returns-clause-closes : goal.returns-clause-closes
returns-clause-closes g c = λ heard stands. Step-goes (c.in_ok-close.ensures.asks heard stands) (Makes-none _ (refl, refl))
