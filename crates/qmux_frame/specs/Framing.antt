-- QMUX is a framing.
use Rattle.std.proofs.Common.{◌≡◌, ℕ, ◌≤◌, List, [], ◌++◌, length, take, arith, length-append, get_or-take, length-take}
use Rattle.std.proofs.lemmas.List.{get_or_append_left}
use Rattle.std.proofs.lemmas.Bool.Decides.{nat_tests}
use Rattle.framing.specs.declared.framing.Size.TheVariants.{Known}
use Rattle.framing.specs.Framing.{IsKept, IsPartial, IsPositive, IsWithin, AreBytes}
use Rattle.framing.proofs.Cases.{kept_by, positive_by, within_by}
use Rattle.qmux_frame.specs.Frame.{size_of}

pub size_of-kept : (front more : List ℕ) → IsKept (size_of front) (size_of (front ++ more))
size_of-kept front more =
    kept_by (size_of front) (size_of (front ++ more)) (λ n is. grind (arith, nat_tests, get_or_append_left, length-append)) (λ is. grind (arith, nat_tests, get_or_append_left, length-append))

pub size_of-told : (bytes : List ℕ) (count : ℕ) → size_of bytes ≡ Known count → count ≤ length bytes → size_of (take count bytes) ≡ Known count
size_of-told bytes count is within = grind (arith, nat_tests, get_or-take, length-take)

pub size_of-bounded : (bytes : List ℕ) → AreBytes bytes → IsWithin 65536 (size_of bytes) (length bytes)
size_of-bounded bytes are =
    within_by 65536 (length bytes) (size_of bytes) (λ is. grind (arith, nat_tests)) (λ n is. let low = are 1 in let high = are 2 in grind (arith, nat_tests))

pub size_of-positive : (bytes : List ℕ) → IsPositive (size_of bytes)
size_of-positive bytes = positive_by (size_of bytes) (λ n is. grind (arith, nat_tests))

pub size_of-begins : IsPartial size_of []
size_of-begins = tt
