use Rattle.std.proofs.Common.{ℕ, ◌==◌, ap}
use Rattle.std.proofs.lemmas.Result.{err_from_is_err_and}
use Rattle.device_core.proofs.Sending.{not_zero}
use Rattle.table_following.proofs.Told.{tells_broken_off, tells_denied, tells_followed, tells_unwritten, tells_without_memory}
use Rattle.table_following.proofs.telling.tell.Goals as goal

pub returns-then-answer-ne0-clause-tells : goal.returns-then-answer-ne0-clause-tells
returns-then-answer-ne0-clause-tells g c = λ heard stands. tells_denied c.args.plan.now c.args.client c.args.answer.now (not_zero _ c.if-answer-ne0.true) stands

pub returns-in_err-text-clause-tells : goal.returns-in_err-text-clause-tells
returns-in_err-text-clause-tells g c = λ heard stands.
    let p = err_from_is_err_and c.from_residual.result c.from_residual.ensures.1 in
    rw (p.1, p.2) (tells_without_memory c.args.plan.now c.args.client c.args.answer.now (ap (λ (n : ℕ). n == 0) c.if-answer-ne0.false) _)

pub returns-in-Err-clause-tells : goal.returns-in-Err-clause-tells
returns-in-Err-clause-tells g c = λ heard stands.
    let written = rw (c.as_slice.ensures, c.in_ok-text.ensures, c.request.ensures, c.kept.ensures) at c.in-Err.ensures.prefix in
    tells_unwritten c.args.plan.now c.args.client c.args.answer.now (ap (λ (n : ℕ). n == 0) c.if-answer-ne0.false) stands written

pub returns-in_err-end-clause-tells : goal.returns-in_err-end-clause-tells
returns-in_err-end-clause-tells g c = λ heard stands.
    let p = err_from_is_err_and c.from_residual-in_err-end.result c.from_residual-in_err-end.ensures.1 in
    let written = rw (c.as_slice.ensures, c.in_ok-text.ensures, c.request.ensures, c.kept.ensures) at c.in_default.ensures.all in
    let follows = rw (c.watch-watch.ensures, c.turns.ensures) at (c.in_err-end.ensures.follows heard stands) in
    rw (p.1, p.2) (tells_broken_off c.args.plan.now c.args.client c.args.answer.now (ap (λ (n : ℕ). n == 0) c.if-answer-ne0.false) written c.in_err-end.field-0.0 follows)

pub returns-clause-tells : goal.returns-clause-tells
returns-clause-tells g c = λ heard stands.
    let written = rw (c.as_slice.ensures, c.in_ok-text.ensures, c.request.ensures, c.kept.ensures) at c.in_default.ensures.all in
    let follows = rw (c.watch-watch.ensures, c.turns.ensures) at (c.in_ok-end.ensures.follows heard stands) in
    tells_followed c.args.plan.now c.args.client c.args.answer.now (ap (λ (n : ℕ). n == 0) c.if-answer-ne0.false) written c.in_ok-end.end follows
