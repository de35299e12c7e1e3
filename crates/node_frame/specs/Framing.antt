-- The messages that a node is written are a framing.
use Rattle.std.proofs.Common.{◌≡◌, ℕ, ◌≤◌, List, [], ◌++◌, length, take, if◌then◌else◌, refl, ◌∙◌, arith, get_or-take, length-take}
use Rattle.std.proofs.lemmas.Bool.Decides.{nat_tests}
use Rattle.framing.specs.declared.framing.Size.{Size}
use Rattle.framing.specs.declared.framing.Size.TheVariants.{Unknown, Known, Invalid}
use Rattle.framing.specs.Framing.{is_invalid, IsKept, IsPartial, IsPositive, IsWithin, AreBytes}
use Rattle.qmux_frame.specs.Frame as qmux
use Rattle.qmux_frame.specs.Framing as of_qmux
use Rattle.mbim_frame.specs.Frame as mbim
use Rattle.mbim_frame.specs.Framing as of_mbim
use Rattle.node_frame.specs.Frame.{size_of}

-- what either of two says, the second where the first begins no message
either : Size → Size → Size
either one other = if is_invalid one then other else one

either-kept : (one other one_later other_later : Size) → IsKept one one_later → IsKept other other_later → IsKept (either one other) (either one_later other_later)
unfolding either
either-kept Unknown other one_later other_later one_kept other_kept = tt
either-kept (Known n) other one_later other_later one_kept other_kept = rw one_kept refl
either-kept Invalid other one_later other_later one_kept other_kept = rw one_kept other_kept

pub size_of-kept : (front more : List ℕ) → IsKept (size_of front) (size_of (front ++ more))
unfolding either
size_of-kept front more =
    either-kept (qmux.size_of front) (mbim.size_of front) (qmux.size_of (front ++ more)) (mbim.size_of (front ++ more)) (of_qmux.size_of-kept front more) (of_mbim.size_of-kept front more)

either-positive : (one other : Size) → IsPositive one → IsPositive other → IsPositive (either one other)
unfolding either
either-positive Unknown other one_is other_is = tt
either-positive (Known n) other one_is other_is = one_is
either-positive Invalid other one_is other_is = other_is

pub size_of-positive : (bytes : List ℕ) → IsPositive (size_of bytes)
unfolding either
size_of-positive bytes = either-positive (qmux.size_of bytes) (mbim.size_of bytes) (of_qmux.size_of-positive bytes) (of_mbim.size_of-positive bytes)

either-within : (one other : Size) (count : ℕ) → IsWithin 65536 one count → IsWithin 65556 other count → IsWithin 65556 (either one other) count
unfolding either
either-within Unknown other count one_is other_is = omega (arith, one_is)
either-within (Known n) other count one_is other_is = omega (arith, one_is)
either-within Invalid other count one_is other_is = other_is

pub size_of-bounded : (bytes : List ℕ) → AreBytes bytes → IsWithin 65556 (size_of bytes) (length bytes)
unfolding either
size_of-bounded bytes are = either-within (qmux.size_of bytes) (mbim.size_of bytes) (length bytes) (of_qmux.size_of-bounded bytes are) (of_mbim.size_of-bounded bytes are)

-- what begins no message of QMUX is told by its first three bytes
invalid-take : (bytes : List ℕ) (count : ℕ) → qmux.size_of bytes ≡ Invalid → 3 ≤ count → count ≤ length bytes → qmux.size_of (take count bytes) ≡ Invalid
invalid-take bytes count is three within = grind (arith, nat_tests, get_or-take, length-take)

-- a message of MBIM has more bytes than that
long_in_mbim : (bytes : List ℕ) (count : ℕ) → mbim.size_of bytes ≡ Known count → 3 ≤ count
long_in_mbim bytes count is = grind (arith, nat_tests)

either-told : (bytes : List ℕ) (count : ℕ) → count ≤ length bytes → (one : Size) → qmux.size_of bytes ≡ one → either one (mbim.size_of bytes) ≡ Known count
    → either (qmux.size_of (take count bytes)) (mbim.size_of (take count bytes)) ≡ Known count
unfolding either
either-told bytes count within Unknown one is = absurd (cc)
either-told bytes count within (Known n) one is = rw (of_qmux.size_of-told bytes count (one ∙ is) within) refl
either-told bytes count within Invalid one is =
    rw (invalid-take bytes count one (long_in_mbim bytes count is) within) (of_mbim.size_of-told bytes count is within)

pub size_of-told : (bytes : List ℕ) (count : ℕ) → size_of bytes ≡ Known count → count ≤ length bytes → size_of (take count bytes) ≡ Known count
unfolding either
size_of-told bytes count is within = either-told bytes count within (qmux.size_of bytes) refl is

pub size_of-begins : IsPartial size_of []
size_of-begins = tt
