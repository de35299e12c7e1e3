use Rattle.std.proofs.Common.{◌≡◌, ◌+◌, ◌<◌, ◌∙◌, ℕ, ap, sym, subst, arith}
use Rattle.std.proofs.lemmas.List.Elements.{All-get_or}
use Rattle.gsm_text.specs.Packing.{pack}
use Rattle.gsm_text.proofs.Digits.{IsPacked-none, IsPacked-first, IsPacked-more, IsPacked-whole, IsPacked-begun, moved}
use Rattle.gsm_text.proofs.packing.pack.Goals as goal
use Rattle.gsm_text.proofs.packing.pack.Goals.{then-bits-eq0, else-bits-eq0+in_ok-push, then-bits-gt0+in_ok-push-2, else-bits-gt0}

pub loop-code-init : goal.loop-code-init
loop-code-init c = rw c.in_ok-octets.ensures.items (IsPacked-none c.args.codes.now c.args.fill c.requires.fill)

pub loop-code-preserved : goal.loop-code-preserved
loop-code-preserved c =
    let packed = c.loop-code.invariant in
    let small : c.from-in-loop-code.result < 128 = subst (λ (n : ℕ). n < 128) (sym c.from-in-loop-code.ensures) (All-get_or (λ (code : ℕ). code < 128) c.args.codes.now c.loop-code.code-index 0 c.loop-code-test.true c.requires.small) in
    let next = ap (λ (n : ℕ). c.loop-code.begun + n) (moved c.from-in-loop-code.result c.loop-code.bits small packed.few) in
    elim c.if-bits-eq0.branch [
      | then-bits-eq0 w ↦ rw (w.octets-is, w.begun-is, w.bits-is) (IsPacked-first _ _ _ _ _ c.from-in-loop-code.result _ _ packed w.if-bits-eq0.true c.from-in-loop-code.ensures small next)
      | else-bits-eq0+in_ok-push w ↦
          rw (w.octets-is, w.in_ok-push.ensures.items, w.begun-is, w.bits-is)
          (IsPacked-more _ _ _ _ _ c.from-in-loop-code.result _ _ _ packed (omega (arith, w.if-bits-eq0.false)) c.from-in-loop-code.ensures small c.loop-code-test.true next)
    ]

pub returns : goal.returns
returns c =
    let packed = c.loop-code.invariant in
    let made : c.if-bits-gt0.octets.items ≡ pack c.args.codes.now c.args.fill =
    elim c.if-bits-gt0.branch [
      | then-bits-gt0+in_ok-push-2 w ↦ rw (w.octets-is, w.in_ok-push-2.ensures.items) (IsPacked-begun _ _ _ _ _ _ packed (omega arith) w.if-bits-gt0.true)
      | else-bits-gt0 w ↦ rw w.octets-is (IsPacked-whole _ _ _ _ _ _ packed (omega arith) (omega (arith, w.if-bits-gt0.false)))
    ]
    in c.from-2.ensures ∙ made
