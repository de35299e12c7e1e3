use Rattle.std.proofs.Common.{◌≡◌, ◌^◌, ◌<◌, ℕ, w64, to_z, of_z, ap, ◌∙◌, subst, arith}
use Rattle.std.proofs.lemmas.Bool.Decides.{nat_tests}
use Rattle.std.proofs.Math.Facts.{to_z-of_z}
use Rattle.json_values.specs.Given.{magnitude}
use Rattle.json_values.proofs.Widths.{has_signed_room, signed_wide}
use Rattle.json_values.proofs.numbers.signed_fits.Goals as goal

pub returns-then-size-ge8 : goal.returns-then-size-ge8
returns-then-size-ge8 c =
    let back : to_z w64 (of_z w64 c.args.number) ≡ c.args.number = to_z-of_z {w = w64} {z = c.args.number} c.ranges.number in
    let bits : c.magnitude-bits.result ≡ magnitude c.args.number = c.magnitude-bits.ensures.exact ∙ ap magnitude back in
    let wide = signed_wide c.args.size c.args.number (subst (λ (n : ℕ). n < 2 ^ 63) bits c.magnitude-bits.ensures.below) c.if-size-ge8.true in
    rw wide (grind (arith, nat_tests, c.if-size-ge8.true))

pub returns-else-size-ge8 : goal.returns-else-size-ge8
returns-else-size-ge8 c =
    let back : to_z w64 (of_z w64 c.args.number) ≡ c.args.number = to_z-of_z {w = w64} {z = c.args.number} c.ranges.number in
    let bits : c.magnitude-bits.result ≡ magnitude c.args.number = c.magnitude-bits.ensures.exact ∙ ap magnitude back in
    rw (c.saturating_sub.ensures, c.from.ensures, bits) (has_signed_room c.args.size c.args.number)
