-- Which numbers so many bits have room for.
use Rattle.std.proofs.Common.{◌≡◌, ℕ, ℤ, pos, negsuc, zero, suc, w64, SFits, ◌*◌, ◌-◌, ◌/◌, ◌^◌, ◌<◌, ◌≤◌, Bool, true, false, nat_eq, nat_lt, refl, sym, ap, subst, arith}
use Rattle.std.proofs.lemmas.Bool.Decides.{nat_tests}
use Rattle.std.proofs.lemmas.Nat.{pow_pos}
use Rattle.tlv_values.specs.Spelling.{signed_fits}
use Rattle.json_values.specs.Given.{magnitude}
use lib.IntN.{◌+ℤ◌, +ℤ_one, nat_abs}
use lib.Signed.{lt_z}
use Rattle.std.proofs.Math.Nat.{div-eq_of_lt, div-lt_iff_lt-mul, pow-le-pow_right}

-- nothing is left behind the bits where they have room
pub has_room : (n k : ℕ) → nat_eq (n / 2 ^ k) 0 ≡ nat_lt n (2 ^ k)
has_room n k = by (nat_lt n (2 ^ k)) (nat_eq (n / 2 ^ k) 0) refl refl
  where
    by : (fits empty : Bool) → nat_lt n (2 ^ k) ≡ fits → nat_eq (n / 2 ^ k) 0 ≡ empty → empty ≡ fits
    by true true is left = refl
    by false false is left = refl
    by true false is left =
        let less : n < 2 ^ k = grind (arith, nat_tests, is) in
        let none : n / 2 ^ k ≡ 0 = div-eq_of_lt less in
        absurd (grind (arith, nat_tests, left, none))
    by false true is left =
        let none : n / 2 ^ k < 1 = grind (arith, nat_tests, left) in
        let less : n < 1 * 2 ^ k = (div-lt_iff_lt-mul (pow_pos k)).0 none in
        absurd (grind (arith, nat_tests, is, less))

-- more bits have room too
pub wide_enough : (n less more : ℕ) → n < 2 ^ less → less ≤ more → nat_lt n (2 ^ more) ≡ true
wide_enough n less more is within =
    let powers : 2 ^ less ≤ 2 ^ more = pow-le-pow_right (pow_pos 1) within in
    let room : n < 2 ^ more = omega (arith, is, powers) in
    grind (arith, nat_tests, room)

-- ---- signed numbers ----

pub has_signed_room : (size : ℕ) (z : ℤ) → nat_eq (magnitude z / 2 ^ (8 * size - 1)) 0 ≡ signed_fits size z
has_signed_room size (pos n) = has_room n (8 * size - 1)
has_signed_room size (negsuc n) = has_room n (8 * size - 1)

pub signed_wide : (size : ℕ) (z : ℤ) → magnitude z < 2 ^ 63 → 8 ≤ size → signed_fits size z ≡ true
signed_wide size (pos n) is wide = wide_enough n 63 (8 * size - 1) is (omega (arith, wide))
signed_wide size (negsuc n) is wide = wide_enough n 63 (8 * size - 1) is (omega (arith, wide))

-- ---- integers of 64 bits ----

pub next_fits : (z : ℤ) → SFits w64 z → lt_z z (pos 0) ≡ true → SFits w64 (z +ℤ pos 1)
next_fits (pos n) fit is = absurd (grind (arith, nat_tests, is))
next_fits (negsuc zero) fit is = record { sfits = omega arith }
next_fits (negsuc (suc n)) fit is =
    let more : suc n < 2 ^ 63 = fit.sfits in
    let less : n < 2 ^ 63 = omega (arith, more) in
    subst (SFits w64) (sym (+ℤ_one (negsuc (suc n)))) (record { sfits = less })

-- the bits but for the sign, by what the number is away from nought
pub bits_of_negative : (z : ℤ) → lt_z z (pos 0) ≡ true → nat_abs (z +ℤ pos 1) ≡ magnitude z
bits_of_negative (pos n) is = absurd (grind (arith, nat_tests, is))
bits_of_negative (negsuc zero) is = refl
bits_of_negative (negsuc (suc n)) is = ap nat_abs (+ℤ_one (negsuc (suc n)))

pub bits_of_natural : (z : ℤ) → lt_z z (pos 0) ≡ false → nat_abs z ≡ magnitude z
bits_of_natural (pos n) is = refl
bits_of_natural (negsuc n) is = absurd cc

pub bits_below : (z : ℤ) → SFits w64 z → magnitude z < 2 ^ 63
bits_below (pos n) fit = fit.sfits
bits_below (negsuc n) fit = fit.sfits
