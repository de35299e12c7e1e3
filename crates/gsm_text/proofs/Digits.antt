-- Packed codes, code by code.
use Rattle.std.proofs.Common.{◌≡◌, ℕ, zero, suc, ◌+◌, ◌*◌, ◌/◌, ◌%◌, ◌^◌, ◌<◌, ◌≤◌, List, [], ◌∷◌, ◌++◌, length, drop, get_or, refl, ap, sym, ◌∙◌, arith, add-one, append_assoc, drop_of_length-le, length-append, All}
use Rattle.std.proofs.Math.Nat.{pow-suc, mul-le-mul_left, div-div-eq-div-mul, zero-div}
use Rattle.std.proofs.lemmas.List.{append-nil}
use Rattle.std.proofs.lemmas.Nat.{pow-add, pow_pos, shl_whole}
use Rattle.std.proofs.lemmas.List.Elements.{All-nil, All-cons}
use Rattle.gsm_text.specs.Packing.{number_of, digits_of, from_bit, octets_for, pack, unpack}

number_of-nothing : (base index : ℕ) → number_of base (drop index []) ≡ 0
number_of-nothing base zero = refl
number_of-nothing base (suc index) = refl

pub number_of-drop : (base : ℕ) (digits : List ℕ) (index : ℕ) → number_of base (drop index digits) ≡ get_or digits index 0 + base * number_of base (drop (index + 1) digits)
number_of-drop base [] zero = rw (number_of-nothing base (0 + 1)) (omega arith)
number_of-drop base [] (suc index) = rw (number_of-nothing base (suc index + 1)) (omega arith)
number_of-drop base (digit ∷ digits) zero = refl
number_of-drop base (digit ∷ digits) (suc index) =
    let place : suc index + 1 ≡ suc (index + 1) = omega arith in
    rw place (number_of-drop base digits index)

-- what holds of each number below eight holds of such a number
by_eight : (P : ℕ → Type 0) (n : ℕ) → P 0 → P 1 → P 2 → P 3 → P 4 → P 5 → P 6 → P 7 → n < 8 → P n
by_eight P zero p0 p1 p2 p3 p4 p5 p6 p7 few = p0
by_eight P (suc zero) p0 p1 p2 p3 p4 p5 p6 p7 few = p1
by_eight P (suc (suc zero)) p0 p1 p2 p3 p4 p5 p6 p7 few = p2
by_eight P (suc (suc (suc zero))) p0 p1 p2 p3 p4 p5 p6 p7 few = p3
by_eight P (suc (suc (suc (suc zero)))) p0 p1 p2 p3 p4 p5 p6 p7 few = p4
by_eight P (suc (suc (suc (suc (suc zero))))) p0 p1 p2 p3 p4 p5 p6 p7 few = p5
by_eight P (suc (suc (suc (suc (suc (suc zero)))))) p0 p1 p2 p3 p4 p5 p6 p7 few = p6
by_eight P (suc (suc (suc (suc (suc (suc (suc zero))))))) p0 p1 p2 p3 p4 p5 p6 p7 few = p7
by_eight P (suc (suc (suc (suc (suc (suc (suc (suc n)))))))) p0 p1 p2 p3 p4 p5 p6 p7 few = absurd (omega arith)

-- ---- packing ----

-- some codes stand in octets, and bits of the last one are begun
pub record IsPacked (codes : List ℕ) (fill index : ℕ) (octets : List ℕ) (begun bits : ℕ) : Type 0 where
  pub left : ℕ
  pub total : octets_for (fill + 7 * length codes) ≡ length octets + left
  pub places : 8 * length octets + bits ≡ fill + 7 * index
  pub few : bits ≤ 7
  pub small : begun < 2 ^ bits
  pub made : pack codes fill ≡ octets ++ digits_of 256 left (begun + 2 ^ bits * number_of 128 (drop index codes))

pub IsPacked-none : (codes : List ℕ) (fill : ℕ) → fill ≤ 6 → IsPacked codes fill 0 [] 0 fill
IsPacked-none codes fill few = record {
  left = octets_for (fill + 7 * length codes);
  total = omega arith;
  places = omega arith;
  few = omega arith;
  small = pow_pos fill;
  made = ap (digits_of 256 (octets_for (fill + 7 * length codes))) (omega arith);
}

-- a code behind a whole octet
pub IsPacked-first : (codes : List ℕ) (fill index : ℕ) (octets : List ℕ) (begun code bits next : ℕ) → IsPacked codes fill index octets begun bits → bits ≡ 0 → code ≡ get_or codes index 0 → code < 128 → next ≡ begun + code * 2 ^ bits
    → IsPacked codes fill (index + 1) octets next 7
IsPacked-first codes fill index octets begun code bits next packed whole code_is fits next_is =
    let none : 2 ^ bits ≡ 1 = rw whole refl in
    let small : begun < 1 = rw none at packed.small in
    let begun_is : next ≡ code = omega (arith, next_is, small, rw none at next_is) in
    let rest = number_of-drop 128 codes index in
    let same : begun + 2 ^ bits * number_of 128 (drop index codes) ≡ next + 128 * number_of 128 (drop (index + 1) codes) = rw (none) (omega arith) in
    record {
      left = packed.left;
      total = packed.total;
      places = omega (arith, packed.places, whole);
      few = omega arith;
      small = omega arith;
      made = packed.made ∙ ap (λ (n : ℕ). octets ++ digits_of 256 packed.left n) same;
    }

grown : (begun half code tail next : ℕ) → next ≡ begun + code * (2 * half) → begun + 2 * half * (code + 128 * tail) ≡ next + 256 * (half * tail)
grown begun half code tail next is = omega arith

still_small : (begun half code next : ℕ) → begun < 2 * half → code < 128 → next ≡ begun + code * (2 * half) → next / 256 < half
still_small begun half code next small fits is =
    let few : code ≤ 127 = omega arith in
    omega (arith, mul-le-mul_left half few)

-- a code behind bits that are begun, which ends an octet
pub IsPacked-more : (codes : List ℕ) (fill index : ℕ) (octets : List ℕ) (begun code bits fewer next : ℕ) → IsPacked codes fill index octets begun bits → bits ≡ fewer + 1 → code ≡ get_or codes index 0 → code < 128 → index < length codes
    → next ≡ begun + code * 2 ^ bits → IsPacked codes fill (index + 1) (octets ++ next % 256 ∷ []) (next / 256) fewer
IsPacked-more codes fill index octets begun code bits fewer next packed bits_is code_is fits within next_is = by packed.left packed.total packed.made
  where
    power : 2 ^ bits ≡ 2 * 2 ^ fewer
    power = rw (bits_is, add-one fewer, pow-suc 2 fewer) (omega arith)

    by : (left : ℕ) → octets_for (fill + 7 * length codes) ≡ length octets + left
        → pack codes fill ≡ octets ++ digits_of 256 left (begun + 2 ^ bits * number_of 128 (drop index codes))
        → IsPacked codes fill (index + 1) (octets ++ next % 256 ∷ []) (next / 256) fewer
    by zero total made = absurd (omega (arith, packed.places))
    by (suc left) total made =
        let half = 2 ^ fewer in
        let tail = number_of 128 (drop (index + 1) codes) in
        let rest = number_of-drop 128 codes index in
        let whole : begun + 2 ^ bits * number_of 128 (drop index codes) ≡ next + 256 * (half * tail) = rw (power, rest, ← code_is) (grown begun half code tail next (rw power at next_is)) in
        let low : (next + 256 * (half * tail)) % 256 ≡ next % 256 = omega arith in
        let high : (next + 256 * (half * tail)) / 256 ≡ next / 256 + half * tail = omega arith in
        record {
          left = left;
          total = omega (arith, length-append {A = ℕ});
          places = omega (arith, packed.places, length-append {A = ℕ});
          few = omega (arith, packed.few);
          small = still_small begun half code next (rw power at packed.small) fits (rw power at next_is);
          made =
              made ∙ ap (λ (n : ℕ). octets ++ digits_of 256 (suc left) n) whole
              ∙ rw (low, high) (sym (append_assoc octets (next % 256 ∷ []) (digits_of 256 left (next / 256 + half * tail))));
        }

-- a code's bits, moved up
pub moved : (code bits : ℕ) → code < 128 → bits ≤ 7 → (code * 2 ^ bits) % 2 ^ 16 ≡ code * 2 ^ bits
moved code bits fits few = shl_whole code 7 bits 16 fits (omega arith)

nothing_left : (codes : List ℕ) (index : ℕ) → length codes ≤ index → number_of 128 (drop index codes) ≡ 0
nothing_left codes index past = rw (drop_of_length-le codes past) refl

pub IsPacked-whole : (codes : List ℕ) (fill index : ℕ) (octets : List ℕ) (begun bits : ℕ) → IsPacked codes fill index octets begun bits → length codes ≡ index → bits ≡ 0 → octets ≡ pack codes fill
IsPacked-whole codes fill index octets begun bits packed past whole =
    let none : packed.left ≡ 0 = omega (arith, packed.total, packed.places) in
    sym (append-nil octets) ∙ sym (rw none at packed.made)

pub IsPacked-begun : (codes : List ℕ) (fill index : ℕ) (octets : List ℕ) (begun bits : ℕ) → IsPacked codes fill index octets begun bits → length codes ≡ index → 0 < bits → octets ++ begun ∷ [] ≡ pack codes fill
IsPacked-begun codes fill index octets begun bits packed past some =
    let one : packed.left ≡ 1 = omega (arith, packed.total, packed.places, packed.few) in
    let small : begun < 256 = by_eight (λ (b : ℕ). begun < 2 ^ b → begun < 256) bits (λ h. omega arith) (λ h. omega arith) (λ h. omega arith) (λ h. omega arith) (λ h. omega arith) (λ h. omega arith) (λ h. omega arith) (λ h. omega arith) (omega (arith, packed.few)) packed.small in
    let digit : (begun + 2 ^ bits * 0) % 256 ≡ begun = omega arith in
    let last : digits_of 256 1 (begun + 2 ^ bits * number_of 128 (drop index codes)) ≡ begun ∷ [] = rw (nothing_left codes index (omega arith), digit) refl in
    ap (λ (l : List ℕ). octets ++ l) (sym last) ∙ sym (rw one at packed.made)

-- ---- unpacking ----

-- seven bits from one of the first eight bits on stand in two octets
two_octets : (low a y : ℕ) → low < 8 → (a + 65536 * y) / 2 ^ low % 128 ≡ a / 2 ^ low % 128
two_octets low a y few = by_eight (λ low. (a + 65536 * y) / 2 ^ low % 128 ≡ a / 2 ^ low % 128) low (omega arith) (omega arith) (omega arith) (omega arith) (omega arith) (omega arith) (omega arith) (omega arith) few

-- the bits from a place on stand in the octets from the place's own on
pub from_bit-drop : (bytes : List ℕ) (at low : ℕ) → ((k : ℕ) → get_or bytes k 0 < 256) → from_bit bytes (8 * at + low) ≡ number_of 256 (drop at bytes) / 2 ^ low
from_bit-drop bytes zero low are = ap (from_bit bytes) (omega arith)
from_bit-drop [] (suc at) low are = zero-div (2 ^ (8 * suc at + low)) ∙ sym (zero-div (2 ^ low))
from_bit-drop (byte ∷ bytes) (suc at) low are =
    let place : 8 * suc at + low ≡ 8 + (8 * at + low) = omega arith in
    let small : byte < 256 = are 0 in
    let first : (byte + 256 * number_of 256 bytes) / 256 ≡ number_of 256 bytes = omega arith in
    rw (place, pow-add 2 8 (8 * at + low), ← div-div-eq-div-mul (byte + 256 * number_of 256 bytes) (2 ^ 8) (2 ^ (8 * at + low)), first) (from_bit-drop bytes at low (λ k. are (suc k)))

pub code_at-is : (bytes : List ℕ) (bit : ℕ) → ((k : ℕ) → get_or bytes k 0 < 256)
    → (get_or bytes (bit / 8) 0 + 256 * get_or bytes (bit / 8 + 1) 0) / 2 ^ (bit % 8) % 128 ≡ from_bit bytes bit % 128
code_at-is bytes bit are =
    let place : bit ≡ 8 * (bit / 8) + bit % 8 = omega arith in
    let here = number_of-drop 256 bytes (bit / 8) in
    let next = number_of-drop 256 bytes (bit / 8 + 1) in
    let two = get_or bytes (bit / 8) 0 + 256 * get_or bytes (bit / 8 + 1) 0 in
    let tail = number_of 256 (drop (bit / 8 + 1 + 1) bytes) in
    let whole : number_of 256 (drop (bit / 8) bytes) ≡ two + 65536 * tail = omega arith in
    sym (two_octets (bit % 8) two tail (omega arith))
    ∙ ap (λ (n : ℕ). n / 2 ^ (bit % 8) % 128) (sym whole)
    ∙ ap (λ (n : ℕ). n % 128) (sym (from_bit-drop bytes (bit / 8) (bit % 8) are) ∙ ap (from_bit bytes) (sym place))

pub from_bit-more : (bytes : List ℕ) (bit : ℕ) → from_bit bytes bit / 128 ≡ from_bit bytes (bit + 7)
from_bit-more bytes bit = div-div-eq-div-mul (number_of 256 bytes) (2 ^ bit) 128 ∙ ap (λ (n : ℕ). number_of 256 bytes / n) (sym (pow-add 2 bit 7))

pub record IsUnpacked (bytes : List ℕ) (fill count index : ℕ) (codes : List ℕ) : Type 0 where
  pub left : ℕ
  pub total : count ≡ index + left
  pub made : unpack bytes fill count ≡ codes ++ digits_of 128 left (from_bit bytes (fill + 7 * index))

pub IsUnpacked-none : (bytes : List ℕ) (fill count : ℕ) → IsUnpacked bytes fill count 0 []
IsUnpacked-none bytes fill count =
    let place : fill ≡ fill + 7 * 0 = omega arith in
    record { left = count; total = omega arith; made = ap (λ (bit : ℕ). digits_of 128 count (from_bit bytes bit)) place }

pub IsUnpacked-more : (bytes : List ℕ) (fill count index : ℕ) (codes : List ℕ) (code : ℕ) → IsUnpacked bytes fill count index codes → index < count → code ≡ from_bit bytes (fill + 7 * index) % 128 → IsUnpacked bytes fill count (index + 1) (codes ++ code ∷ [])
IsUnpacked-more bytes fill count index codes code unpacked within code_is = by unpacked.left unpacked.total unpacked.made
  where
    by : (left : ℕ) → count ≡ index + left → unpack bytes fill count ≡ codes ++ digits_of 128 left (from_bit bytes (fill + 7 * index)) → IsUnpacked bytes fill count (index + 1) (codes ++ code ∷ [])
    by zero total made = absurd (omega arith)
    by (suc left) total made =
        let place : fill + 7 * index + 7 ≡ fill + 7 * (index + 1) = omega arith in
        let next : from_bit bytes (fill + 7 * index) / 128 ≡ from_bit bytes (fill + 7 * (index + 1)) = from_bit-more bytes (fill + 7 * index) ∙ ap (from_bit bytes) place in
        record { left = left; total = omega arith; made = rw (append_assoc, code_is, ← next) made }

pub IsUnpacked-all : (bytes : List ℕ) (fill count index : ℕ) (codes : List ℕ) → IsUnpacked bytes fill count index codes → count ≤ index → codes ≡ unpack bytes fill count
IsUnpacked-all bytes fill count index codes unpacked end =
    let none : unpacked.left ≡ 0 = omega (arith, unpacked.total) in
    sym (append-nil codes) ∙ sym (rw none at unpacked.made)

-- each of them has 7 bits
pub unpack-small : (count number : ℕ) → All (λ code. code < 128) (digits_of 128 count number)
unpack-small zero number = All-nil (λ code. code < 128)
unpack-small (suc count) number = All-cons (λ code. code < 128) (number % 128) (digits_of 128 count (number / 128)) (omega arith) (unpack-small count (number / 128))
