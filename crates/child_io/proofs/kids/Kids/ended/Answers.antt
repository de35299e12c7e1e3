use Rattle.std.proofs.Common.{not, ◌==◌, refl, rules}
use Rattle.std.proofs.lemmas.Grind.{common_steps}
use Rattle.std.proofs.lemmas.Result.{err_from_is_err_and}
use Rattle.arrayvec.proofs.ArrayVecLemmas.{filter-from_retain}
use Rattle.child_io.proofs.Alive.{stands-ended, stands-end_failed}
use Rattle.child_io.proofs.kids.Kids.ended.Goals as goal

pub returns-in_err-status-clause-stands : goal.returns-in_err-status-clause-stands
returns-in_err-status-clause-stands g c = λ calls stands.
    let p = err_from_is_err_and c.from_residual.result c.from_residual.ensures.1 in rw p.1 (stands-end_failed calls stands c.args.child refl)

pub returns-clause-ok : goal.returns-clause-ok
returns-clause-ok g c = rw (← c.self.view_is) (filter-from_retain _ (λ other. not (c.args.child == other)) _ (λ x b f' y called. search (rules, common_steps)) _ _ c.retain.ensures.filtered)

pub returns-clause-stands : goal.returns-clause-stands
returns-clause-stands g c = λ calls stands. stands-ended calls stands c.args.child _ (returns-clause-ok g c)
