-- Numbers that fit so many bytes.
use Rattle.std.proofs.Common.{◌≡◌, inl, inr, ℕ, zero, suc, ◌+◌, ◌-◌, ◌*◌, ◌/◌, ◌^◌, ◌<◌, ◌≤◌, ℤ, pos, negsuc, List, sym, refl, ◌∙◌, ap, subst, arith}
use Rattle.std.proofs.Math.Nat.{pow-suc}
use Rattle.std.proofs.lemmas.Bool.{cases_lt, lt-ltb, ltb-true}
use Rattle.std.proofs.lemmas.Int.{ints}
use Rattle.std.proofs.lemmas.Bool.Decides.{nat_tests}
use Rattle.std.specs.Prelude.{◌-ℤ◌, nat_lt, if◌then◌else◌, IsTrue}
use Rattle.std.specs.List.{slice_index}
use Rattle.byteorder.proofs.Bytes.{pow256}
use Rattle.kit_bytes.specs.Numbers.{number_bytes}
use Rattle.qmi_shapes.specs.WellMade.{IsSize}
use Rattle.qmi_values.specs.Numbers.{little_endian, twos_complement, AreBytes, IsUnsigned, IsSigned}
use Rattle.qmi_values.proofs.Digits.{below, whole_is}
use Rattle.tlv_values.specs.Spelling.{unsigned_fits, signed_fits, bits}

-- ---- numbers without a sign ----

number_bytes-are : (size n : ℕ) → AreBytes size (number_bytes size n)
number_bytes-are zero n = record { count = refl; each = λ at. omega arith }
number_bytes-are (suc size) n =
    let rest = number_bytes-are size (n / 256) in
    record { count = ap suc rest.count; each = each size n rest.each }
  where
    each : (size n : ℕ) → ((at : ℕ) → slice_index (number_bytes size (n / 256)) at < 256) → (at : ℕ) → slice_index (number_bytes (suc size) n) at < 256
    each size n rest zero = omega arith
    each size n rest (suc at) = rest at

number_bytes-is : (size n : ℕ) → n < 256 ^ size → n ≡ little_endian (number_bytes size n)
number_bytes-is zero n small = omega arith
number_bytes-is (suc size) n small =
    let high : n / 256 < 256 ^ size = let s = pow-suc 256 size in omega arith in
    let rest = number_bytes-is size (n / 256) high in
    omega arith

pub number_bytes-unsigned : (size n : ℕ) → n < 256 ^ size → IsUnsigned size n (number_bytes size n)
number_bytes-unsigned size n small = record { are = number_bytes-are size n; is = number_bytes-is size n small }

pub unsigned-spelled : (size n : ℕ) → IsTrue (unsigned_fits size n) → IsUnsigned size n (number_bytes size n)
unsigned-spelled size n fit = number_bytes-unsigned size n (subst (λ (m : ℕ). n < m) (sym (pow256 size)) (ltb-true n (2 ^ (8 * size)) fit))

below_power : (size : ℕ) (bytes : List ℕ) → AreBytes size bytes → little_endian bytes < 2 ^ (8 * size)
below_power size bytes are = subst (λ (m : ℕ). little_endian bytes < m) (pow256 size) (below size bytes are)

pub unsigned-fits : (size n : ℕ) (bytes : List ℕ) → IsUnsigned size n bytes → IsTrue (unsigned_fits size n)
unsigned-fits size n bytes is = lt-ltb n (2 ^ (8 * size)) (subst (λ (m : ℕ). m < 2 ^ (8 * size)) (sym is.is) (below_power size bytes is.are))

-- ---- signed numbers ----

low_back : (half whole n : ℕ) → n < half → (if nat_lt n half then pos n else pos n -ℤ pos whole) ≡ pos n
low_back half whole n low = grind (arith, ints, nat_tests)

high_back : (half whole n : ℕ) → n < half → whole ≡ 2 * half → (if nat_lt (whole - (n + 1)) half then pos (whole - (n + 1)) else pos (whole - (n + 1)) -ℤ pos whole) ≡ negsuc n
high_back half whole n low two = grind (arith, ints, nat_tests)

complement_back : (size : ℕ) (z : ℤ) → IsSize size → IsTrue (signed_fits size z) → twos_complement size (bits size z) ≡ z
complement_back size (pos n) is fit = low_back (2 ^ (8 * size - 1)) (2 ^ (8 * size)) n (ltb-true n (2 ^ (8 * size - 1)) fit)
complement_back size (negsuc n) is fit = high_back (2 ^ (8 * size - 1)) (2 ^ (8 * size)) n (ltb-true n (2 ^ (8 * size - 1)) fit) (whole_is size is)

bits_small : (size : ℕ) (z : ℤ) → IsSize size → IsTrue (signed_fits size z) → bits size z < 2 ^ (8 * size)
bits_small size (pos n) is fit = omega (arith, ltb-true n (2 ^ (8 * size - 1)) fit, whole_is size is)
bits_small size (negsuc n) is fit = omega (arith, ltb-true n (2 ^ (8 * size - 1)) fit, whole_is size is)

pub signed-spelled : (size : ℕ) (z : ℤ) → IsSize size → IsTrue (signed_fits size z) → IsSigned size z (number_bytes size (bits size z))
signed-spelled size z is fit =
    let small : bits size z < 256 ^ size = subst (λ (m : ℕ). bits size z < m) (sym (pow256 size)) (bits_small size z is fit) in
    record { are = number_bytes-are size (bits size z); is = sym (complement_back size z is fit) ∙ ap (twos_complement size) (number_bytes-is size (bits size z) small) }

low_is : (half whole x : ℕ) → x < half → (if nat_lt x half then pos x else pos x -ℤ pos whole) ≡ pos x
low_is half whole x low = grind (arith, ints, nat_tests)

high_is : (half whole x : ℕ) → half ≤ x → x < whole → (if nat_lt x half then pos x else pos x -ℤ pos whole) ≡ negsuc (whole - (x + 1))
high_is half whole x high small = grind (arith, ints, nat_tests)

complement_fits : (size x : ℕ) → IsSize size → x < 2 ^ (8 * size) → IsTrue (signed_fits size (twos_complement size x))
complement_fits size x is small =
    let half : ℕ = 2 ^ (8 * size - 1) in
    let whole : ℕ = 2 ^ (8 * size) in
    elim (cases_lt x half) as (λ m. IsTrue (signed_fits size (twos_complement size x))) [
      | inl low ↦ subst (λ (z : ℤ). IsTrue (signed_fits size z)) (sym (low_is half whole x low)) (lt-ltb x half low)
      | inr high ↦
          subst (λ (z : ℤ). IsTrue (signed_fits size z)) (sym (high_is half whole x high small)) (lt-ltb (whole - (x + 1)) half (omega (arith, whole_is size is)))
    ]

pub signed-fits : (size : ℕ) (z : ℤ) (bytes : List ℕ) → IsSize size → IsSigned size z bytes → IsTrue (signed_fits size z)
signed-fits size z bytes size_is is = subst (λ (y : ℤ). IsTrue (signed_fits size y)) (sym is.is) (complement_fits size (little_endian bytes) size_is (below_power size bytes is.are))
