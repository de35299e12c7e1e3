-- The ranges that are told are those of the values that fit.
use Rattle.std.proofs.Common.{◌≡◌, ℕ, suc, ◌+◌, ◌-◌, ◌*◌, ◌/◌, ◌^◌, ◌<◌, ◌≤◌, min, Bool, true, false, nat_lt, nat_le, refl, ap, ◌∙◌, arith}
use Rattle.std.proofs.Math.Nat.{pow-succ'}
use Rattle.std.proofs.lemmas.Bool.Decides.{nat_tests}
use Rattle.std.proofs.lemmas.Nat.{pow_pos}
use Rattle.qmi_shapes.specs.WellMade.{IsSize}
use Rattle.named_messages.specs.Described.{largest}
use Rattle.named_messages.specs.Laws.{AreWhatFits}

same : (m q n k : ℕ) → (m < q → n ≤ k) → (n ≤ k → m < q) → nat_lt m q ≡ nat_le n k
same m q n k there back = by (nat_lt m q) (nat_le n k) refl refl
  where
    by : (less upto : Bool) → nat_lt m q ≡ less → nat_le n k ≡ upto → less ≡ upto
    by true true less upto = refl
    by false false less upto = refl
    by true false less upto = let is : n ≤ k = there (grind (arith, nat_tests, less)) in absurd (grind (arith, nat_tests, upto, is))
    by false true less upto = let is : m < q = back (grind (arith, nat_tests, upto)) in absurd (grind (arith, nat_tests, less, is))

largest-is : (size : ℕ) → IsSize size → largest size ≡ 2 ^ (8 * size) - 1
largest-is size is = let eight : min size 8 ≡ size = omega (arith, is.1) in ap (λ (s : ℕ). 2 ^ (8 * s) - 1) eight

-- the powers of two on both sides of the sign
halved : (size : ℕ) → IsSize size → 2 ^ (8 * size) ≡ 2 * 2 ^ (8 * size - 1)
halved size is =
    let more : 8 * size ≡ suc (8 * size - 1) = omega (arith, is.0) in
    ap (λ (k : ℕ). 2 ^ k) more ∙ pow-succ' 2 (8 * size - 1)

pub are_what_fits : AreWhatFits
are_what_fits size n is =
    let top = largest-is size is in
    let half = halved size is in
    let some : 0 < 2 ^ (8 * size) = pow_pos (8 * size) in
    let some_half : 0 < 2 ^ (8 * size - 1) = pow_pos (8 * size - 1) in
    let numbers = same n (2 ^ (8 * size)) n (largest size) (λ less. omega (arith, top, some, less)) (λ upto. omega (arith, top, some, upto)) in
    let above = same n (2 ^ (8 * size - 1)) n (largest size / 2) (λ less. omega (arith, top, half, some_half, less)) (λ upto. omega (arith, top, half, some_half, upto)) in
    let below =
    same n (2 ^ (8 * size - 1)) (n + 1) (largest size / 2 + 1) (λ less. omega (arith, top, half, some_half, less)) (λ upto. omega (arith, top, half, some_half, upto)) in
    (numbers, above, below)
