use Rattle.std.proofs.Common.{◌≡◌, ◌^◌, ◌<◌, ℕ, ℤ, pos, true, false, w64, to_z, of_z, sym, ap, ◌∙◌, subst}
use Rattle.std.proofs.Math.Facts.{to_z-of_z}
use lib.IntN.{◌+ℤ◌, nat_abs}
use lib.Signed.{lt_z}
use Rattle.json_values.proofs.Widths.{next_fits, bits_of_negative, bits_of_natural, bits_below}
use Rattle.json_values.proofs.numbers.magnitude.Goals as goal

pub returns-then-number-lt0-clause-exact : goal.returns-then-number-lt0-clause-exact
returns-then-number-lt0-clause-exact c =
    let back : to_z w64 (of_z w64 c.args.number) ≡ c.args.number = to_z-of_z {w = w64} {z = c.args.number} c.ranges.number in
    let below : lt_z c.args.number (pos 0) ≡ true = ap (λ (z : ℤ). lt_z z (pos 0)) (sym back) ∙ c.if-number-lt0.true in
    let next : to_z w64 (of_z w64 (c.args.number +ℤ pos 1)) ≡ c.args.number +ℤ pos 1 = to_z-of_z {w = w64} {z = c.args.number +ℤ pos 1} (next_fits c.args.number c.ranges.number below) in
    c.unsigned_abs.ensures.value ∙ ap (λ (z : ℤ). nat_abs (to_z w64 (of_z w64 (z +ℤ pos 1)))) back ∙ ap nat_abs next ∙ bits_of_negative c.args.number below

pub returns-then-number-lt0-clause-below : goal.returns-then-number-lt0-clause-below
returns-then-number-lt0-clause-below c = subst (λ (n : ℕ). n < 2 ^ 63) (sym (returns-then-number-lt0-clause-exact c)) (bits_below c.args.number c.ranges.number)

pub returns-else-number-lt0-clause-exact : goal.returns-else-number-lt0-clause-exact
returns-else-number-lt0-clause-exact c =
    let back : to_z w64 (of_z w64 c.args.number) ≡ c.args.number = to_z-of_z {w = w64} {z = c.args.number} c.ranges.number in
    let natural : lt_z c.args.number (pos 0) ≡ false = ap (λ (z : ℤ). lt_z z (pos 0)) (sym back) ∙ c.if-number-lt0.false in
    c.unsigned_abs-else-number-lt0.ensures.value ∙ ap nat_abs back ∙ bits_of_natural c.args.number natural

pub returns-else-number-lt0-clause-below : goal.returns-else-number-lt0-clause-below
returns-else-number-lt0-clause-below c = subst (λ (n : ℕ). n < 2 ^ 63) (sym (returns-else-number-lt0-clause-exact c)) (bits_below c.args.number c.ranges.number)
