use Rattle.gsm_text.proofs.Digits.{IsUnpacked-none, IsUnpacked-more, IsUnpacked-all, unpack-small}
use Rattle.std.proofs.Common.{◌<◌, ◌∙◌, ℕ, List, All, sym, subst}
use Rattle.gsm_text.specs.Packing.{from_bit}
use Rattle.gsm_text.proofs.packing.unpack.Goals as goal

pub loop-k-init : goal.loop-k-init
loop-k-init c = rw c.new-codes.ensures.items (IsUnpacked-none c.args.bytes.now c.args.fill c.args.count)

pub loop-k-preserved : goal.loop-k-preserved
loop-k-preserved c = rw c.in_ok-push.ensures.items (IsUnpacked-more _ _ _ _ _ c.code_at.result c.loop-k.invariant c.loop-k-test.true (rw c.from-in-loop-k.ensures at c.code_at.ensures))

pub returns-clause-small : goal.returns-clause-small
returns-clause-small c =
    let is = c.from-2.ensures ∙ IsUnpacked-all _ _ _ _ _ c.loop-k.invariant c.loop-k-test.false in
    subst (λ (codes : List ℕ). All (λ (code : ℕ). code < 128) codes) (sym is) (unpack-small c.args.count (from_bit c.args.bytes.now c.args.fill))
