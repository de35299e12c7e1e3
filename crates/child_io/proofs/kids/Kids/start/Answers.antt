use Rattle.std.proofs.Common.{refl, rules}
use Rattle.std.proofs.lemmas.Result.{err_from_is_err_and}
use Rattle.child_io.proofs.Alive.{stands-started, stands-start_failed}
use Rattle.child_io.proofs.kids.Kids.start.Goals as goal

pub returns-in_err-child-clause-stands : goal.returns-in_err-child-clause-stands
returns-in_err-child-clause-stands g c = λ calls stands.
    let p = err_from_is_err_and c.from_residual.result c.from_residual.ensures.1 in rw p.1 (stands-start_failed calls stands _ refl)

pub returns-clause-stands : goal.returns-clause-stands
returns-clause-stands g c = λ calls stands. stands-started calls stands _ _ (search rules)
