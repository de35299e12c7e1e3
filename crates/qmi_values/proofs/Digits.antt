-- Numbers in bytes.
use Rattle.std.proofs.Common.{◌≡◌, inl, inr, ℕ, zero, suc, w64, of_z, ◌+◌, ◌-◌, ◌*◌, ◌^◌, ◌%◌, ◌<◌, ◌≤◌, ℤ, pos, List, [], ◌∷◌, ◌++◌, length, take, refl, sym, ◌∙◌, ap, subst, arith}
use Rattle.std.proofs.Math.Nat.{pow-suc, div-one, mod-eq_of_lt, one-le-pow}
use Rattle.std.proofs.lemmas.Nat.{mod-mul-add, pow-add}
use Rattle.std.proofs.lemmas.Bool.{cases_lt}
use Rattle.std.proofs.lemmas.List.{append-nil}
use Rattle.std.proofs.lemmas.Int.{ints}
use Rattle.std.proofs.lemmas.Bool.Decides.{nat_tests}
use Rattle.std.specs.Prelude.{◌-ℤ◌, nat_lt, if◌then◌else◌}
use Rattle.std.specs.List.{slice_index}
use Rattle.std.specs.Int.{byte_at, bytes_low_first, to_le_bytes}
use Rattle.byteorder.specs.Endian.{little_from}
use Rattle.byteorder.specs.Numbers.{little_from-cons, little_from-bytes, length-bytes_low_first}
use Rattle.byteorder.proofs.Bytes.{pow256, sign_bit}
use Rattle.qmi_shapes.specs.WellMade.{IsSize}
use Rattle.qmi_values.specs.Numbers.{little_endian, twos_complement, AreBytes, IsUnsigned, IsSigned}

-- ---- lists that begin with as many bytes ----

pub same_fronts : {A : Type 0} (a b r s : List A) → length a ≡ length b → a ++ r ≡ b ++ s → (a ≡ b) × (r ≡ s)
same_fronts [] [] r s size same = (refl, same)
same_fronts [] (y ∷ b) r s size same = absurd (omega arith)
same_fronts (x ∷ a) [] r s size same = absurd (omega arith)
same_fronts {A} (x ∷ a) (y ∷ b) r s size same =
    let head : x ≡ y = cc in
    let tails : a ++ r ≡ b ++ s = cc in
    let inner = same_fronts a b r s (omega arith) tails in
    let front : a ≡ b = inner.0 in
    (cc, inner.1)

-- ---- numbers without a sign ----

pub same_digits : (a b : List ℕ) → length a ≡ length b → ((at : ℕ) → slice_index a at < 256) → ((at : ℕ) → slice_index b at < 256)
    → little_endian a ≡ little_endian b → a ≡ b
same_digits [] [] size in_a in_b same = refl
same_digits [] (y ∷ b) size in_a in_b same = absurd (omega arith)
same_digits (x ∷ a) [] size in_a in_b same = absurd (omega arith)
same_digits (x ∷ a) (y ∷ b) size in_a in_b same =
    let small : x < 256 = in_a 0 in
    let other : y < 256 = in_b 0 in
    let head : x ≡ y = omega arith in
    let rest : a ≡ b = same_digits a b (omega arith) (λ at. in_a (suc at)) (λ at. in_b (suc at)) (omega arith) in
    cc

pub little_endian-lt : (bytes : List ℕ) → ((at : ℕ) → slice_index bytes at < 256) → little_endian bytes < 256 ^ length bytes
little_endian-lt [] are = omega arith
little_endian-lt (byte ∷ bytes) are =
    let small : byte < 256 = are 0 in
    let rest = little_endian-lt bytes (λ at. are (suc at)) in
    rw (pow-suc 256 (length bytes)) (omega arith)

pub below : (size : ℕ) (bytes : List ℕ) → AreBytes size bytes → little_endian bytes < 256 ^ size
below size bytes are = subst (λ (n : ℕ). little_endian bytes < 256 ^ n) are.count (little_endian-lt bytes are.each)

pub same_bytes : (size number : ℕ) (a b : List ℕ) → IsUnsigned size number a → IsUnsigned size number b → a ≡ b
same_bytes size number a b in_a in_b = same_digits a b (in_a.are.count ∙ sym in_b.are.count) in_a.are.each in_b.are.each (sym in_a.is ∙ in_b.is)

pub read_is : (bytes : List ℕ) → little_from 0 (length bytes) bytes ≡ little_endian bytes
read_is [] = refl
read_is (byte ∷ bytes) = ap (λ (n : ℕ). byte + 256 * n) (little_from-cons 0 (length bytes) byte bytes ∙ read_is bytes)

pub read_unsigned : (bytes : List ℕ) (number : ℕ) → ((at : ℕ) → slice_index bytes at < 256) → number ≡ little_from 0 (length bytes) bytes → IsUnsigned (length bytes) number bytes
read_unsigned bytes number each is = record { are = record { count = refl; each = each }; is = is ∙ read_is bytes }

-- ---- signed numbers ----

pub read_signed : (bytes : List ℕ) (number : ℤ) → ((at : ℕ) → slice_index bytes at < 256) → number ≡ twos_complement (length bytes) (little_from 0 (length bytes) bytes)
    → IsSigned (length bytes) number bytes
read_signed bytes number each is = record { are = record { count = refl; each = each }; is = is ∙ ap (twos_complement (length bytes)) (read_is bytes) }

signs_apart : (half whole x y : ℕ) → whole ≡ 2 * half → x < whole → y < whole
    → (if nat_lt x half then pos x else pos x -ℤ pos whole) ≡ (if nat_lt y half then pos y else pos y -ℤ pos whole) → x ≡ y
signs_apart half whole x y two in_x in_y same = grind (arith, ints, nat_tests)

-- numbers of so many bytes are those with this sign bit
pub whole_is : (size : ℕ) → IsSize size → 2 ^ (8 * size) ≡ 2 * 2 ^ (8 * size - 1)
whole_is size is = sym (pow256 size) ∙ (sign_bit size is.0 is.1).2

pub bits_apart : (size x y : ℕ) → IsSize size → x < 256 ^ size → y < 256 ^ size → twos_complement size x ≡ twos_complement size y → x ≡ y
bits_apart size x y is in_x in_y same =
    let power = pow256 size in
    signs_apart (2 ^ (8 * size - 1)) (2 ^ (8 * size)) x y (whole_is size is) (omega arith) (omega arith) same

pub same_signed_bytes : (size : ℕ) (number : ℤ) (a b : List ℕ) → IsSize size → IsSigned size number a → IsSigned size number b → a ≡ b
same_signed_bytes size number a b is in_a in_b =
    same_digits a b (in_a.are.count ∙ sym in_b.are.count) in_a.are.each in_b.are.each
    (bits_apart size (little_endian a) (little_endian b) is (below size a in_a.are) (below size b in_b.are) (sym in_a.is ∙ in_b.is))

-- ---- the lowest bytes of a number ----

take_low : (from size all number : ℕ) → size ≤ all → take size (bytes_low_first from all number) ≡ bytes_low_first from size number
take_low from zero all number less = refl
take_low from (suc size) zero number less = absurd (omega arith)
take_low from (suc size) (suc all) number less = ap (λ (l : List ℕ). byte_at from number ∷ l) (take_low (suc from) size all number (omega arith))

low_length : (size number : ℕ) → size ≤ 8 → length (take size (to_le_bytes w64 number)) ≡ size
low_length size number small = ap length (take_low 0 size 8 number small) ∙ length-bytes_low_first 0 size number

low_is : (size number : ℕ) → size ≤ 8 → little_endian (take size (to_le_bytes w64 number)) ≡ number % 256 ^ size
low_is size number small =
    let bytes : List ℕ = bytes_low_first 0 size number in
    ap little_endian (take_low 0 size 8 number small)
    ∙ sym (read_is bytes)
    ∙ ap (λ (n : ℕ). little_from 0 n bytes) (length-bytes_low_first 0 size number)
    ∙ ap (λ (l : List ℕ). little_from 0 size l) (sym (append-nil bytes))
    ∙ little_from-bytes size 0 number []
    ∙ ap (λ (n : ℕ). n % 256 ^ size) (div-one number)

-- where some bytes are a number, its lowest bytes are
pub unsigned_back : (size number : ℕ) (bytes : List ℕ) → size ≤ 8 → IsUnsigned size number bytes → little_endian (take size (to_le_bytes w64 number)) ≡ number
unsigned_back size number bytes small in_b =
    let less : number < 256 ^ size = subst (λ (n : ℕ). n < 256 ^ size) (sym in_b.is) (below size bytes in_b.are) in
    low_is size number small ∙ mod-eq_of_lt less

low_bits : (half whole bits : ℕ) → bits < half → of_z w64 (if nat_lt bits half then pos bits else pos bits -ℤ pos whole) ≡ bits
low_bits half whole bits low = grind (arith, ints, nat_tests)

high_bits : (half whole bits : ℕ) → half ≤ bits → bits < whole → whole ≤ 2 ^ 64 → of_z w64 (if nat_lt bits half then pos bits else pos bits -ℤ pos whole) + whole ≡ 2 ^ 64 + bits
high_bits half whole bits high small fits = grind (arith, ints, nat_tests)

-- the 64 bits of a signed number, cut to its size
bits_back : (half whole more bits : ℕ) → 2 ^ 64 ≡ (more + 1) * whole → bits < whole → of_z w64 (if nat_lt bits half then pos bits else pos bits -ℤ pos whole) % whole ≡ bits
bits_back half whole more bits all small =
    let all_is : 2 ^ 64 ≡ more * whole + whole = omega (arith, all) in
    elim (cases_lt bits half) as (λ m. of_z w64 (if nat_lt bits half then pos bits else pos bits -ℤ pos whole) % whole ≡ bits) [
      | inl low ↦ ap (λ (n : ℕ). n % whole) (low_bits half whole bits low) ∙ mod-eq_of_lt small
      | inr high ↦
          let sum = high_bits half whole bits high small (omega arith) in
          let is : of_z w64 (if nat_lt bits half then pos bits else pos bits -ℤ pos whole) ≡ more * whole + bits = omega arith in
          ap (λ (n : ℕ). n % whole) is ∙ mod-mul-add more whole bits small
    ]

pub signed_back : (size : ℕ) (number : ℤ) (bytes : List ℕ) → IsSize size → IsSigned size number bytes
    → twos_complement (length (take size (to_le_bytes w64 (of_z w64 number)))) (little_endian (take size (to_le_bytes w64 (of_z w64 number)))) ≡ number
signed_back size number bytes is in_b =
    let bits : ℕ = little_endian bytes in
    let whole : 256 ^ size ≡ 2 ^ (8 * size) = pow256 size in
    let small : bits < 2 ^ (8 * size) = omega (arith, below size bytes in_b.are, whole) in
    let sum : (8 - size) + size ≡ 8 = omega (arith, is.1) in
    let all : 2 ^ 64 ≡ 256 ^ (8 - size) * 256 ^ size = ap (λ (n : ℕ). 256 ^ n) (sym sum) ∙ pow-add 256 (8 - size) size in
    let some : (256 ^ (8 - size) - 1) + 1 ≡ 256 ^ (8 - size) = let h = one-le-pow (8 - size) 256 (omega arith) in omega arith in
    let parts : 2 ^ 64 ≡ ((256 ^ (8 - size) - 1) + 1) * 2 ^ (8 * size) = all ∙ ap (λ (n : ℕ). n * 256 ^ size) (sym some) ∙ ap (λ (n : ℕ). ((256 ^ (8 - size) - 1) + 1) * n) whole in
    let cut : of_z w64 number % 256 ^ size ≡ bits =
    ap (λ (z : ℤ). of_z w64 z % 256 ^ size) in_b.is
    ∙ ap (λ (n : ℕ). of_z w64 (twos_complement size bits) % n) whole
    ∙ bits_back (2 ^ (8 * size - 1)) (2 ^ (8 * size)) (256 ^ (8 - size) - 1) bits parts small in
    let low : little_endian (take size (to_le_bytes w64 (of_z w64 number))) ≡ bits = low_is size (of_z w64 number) is.1 ∙ cut in
    ap (λ (n : ℕ). twos_complement n (little_endian (take size (to_le_bytes w64 (of_z w64 number))))) (low_length size (of_z w64 number) is.1)
    ∙ ap (twos_complement size) low
    ∙ sym in_b.is
