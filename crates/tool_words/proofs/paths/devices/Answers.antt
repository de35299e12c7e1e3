use Rattle.std.proofs.Common.{◌∙◌, Bor, ℕ, List, Some, ap, sym}
use Rattle.std.proofs.lemmas.Result.{err_from_is_err_and}
use Rattle.tool_words.specs.Paths.{paths_in}
use Rattle.tool_words.proofs.Devices.{not_devices, one_more}
use Rattle.tool_words.proofs.paths.devices.Goals as goal

pub loop-text-init : goal.loop-text-init
unfolding paths_in
loop-text-init c = ap Some (sym c.new-paths.ensures.items)

pub returns-in_err-path : goal.returns-in_err-path
returns-in_err-path c =
    let p = err_from_is_err_and c.from_residual.result c.from_residual.ensures.1 in
    rw (p.1, p.2) (not_devices (λ (text : Bor (List ℕ)). text.now) c.args.texts.now c.loop-text.text-index _ _ c.loop-text-test.true c.in_err-path.ensures)

pub loop-text-preserved : goal.loop-text-preserved
loop-text-preserved c =
    one_more (λ (text : Bor (List ℕ)). text.now) c.args.texts.now c.loop-text.text-index _ c.loop-text.paths.items _ c.loop-text-test.true c.loop-text.invariant c.in_ok-path.ensures
    ∙ ap Some (sym c.in_ok-add.ensures)
