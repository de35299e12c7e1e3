-- A number, and the user data of a part, are read back.
use Rattle.std.proofs.Common.{◌≡◌, ℕ, zero, suc, ◌+◌, ◌*◌, ◌/◌, ◌%◌, ◌==◌, ◌<◌, ◌≤◌, nat_lt, nat_le, Bool, true, false, ◌&&◌, cond, List, [], ◌∷◌, length, take, map, refl, ap, sym, ◌∙◌, arith, slice_index}
use Rattle.std.specs.List.{flat_map, list_all}
use Rattle.std.proofs.lemmas.Bool.Decides.{nat_tests}
use Rattle.kit_bytes.specs.Numbers.{u16_bytes}
use Rattle.sms_pdu.specs.declared.address.TheConstants.{DIGITS}
use Rattle.sms_pdu.specs.Address.{address_text, digit, digits, half_octets}
use Rattle.sms_pdu.specs.Reading.{swapped}
use Rattle.sms_pdu.specs.Parts.{big_endian, digits_of, half, is_digit, number_kind, semi_octets}

-- ---- the number ----

is_between : (char : ℕ) → is_digit char ≡ true → (48 ≤ char) × (char ≤ 57)
is_between char is = by (nat_le 48 char) (nat_le char 57) refl refl is
  where
    by : (x y : Bool) → nat_le 48 char ≡ x → nat_le char 57 ≡ y → (x && y) ≡ true → (48 ≤ char) × (char ≤ 57)
    by true true low high e = (grind (arith, nat_tests, low), grind (arith, nat_tests, high))
    by true false low high e = absurd (cc)
    by false y low high e = absurd (cc)

digit_of : (k : ℕ) → k < 10 → slice_index DIGITS k ≡ 48 + k
digit_of zero below = refl
digit_of (suc zero) below = refl
digit_of (suc (suc zero)) below = refl
digit_of (suc (suc (suc zero))) below = refl
digit_of (suc (suc (suc (suc zero)))) below = refl
digit_of (suc (suc (suc (suc (suc zero))))) below = refl
digit_of (suc (suc (suc (suc (suc (suc zero)))))) below = refl
digit_of (suc (suc (suc (suc (suc (suc (suc zero))))))) below = refl
digit_of (suc (suc (suc (suc (suc (suc (suc (suc zero)))))))) below = refl
digit_of (suc (suc (suc (suc (suc (suc (suc (suc (suc zero))))))))) below = refl
digit_of (suc (suc (suc (suc (suc (suc (suc (suc (suc (suc k)))))))))) below = absurd (omega arith)

half_below : (char : ℕ) → is_digit char ≡ true → half char < 10
half_below char is = let between = is_between char is in omega (arith, between.0, between.1)

read_half : (char : ℕ) → is_digit char ≡ true → digit (half char) ≡ char
read_half char is =
    let between = is_between char is in
    digit_of (half char) (half_below char is) ∙ omega (arith, between.0, between.1)

one_digit : (char : ℕ) (rest : List ℕ) → is_digit char ≡ true → digits (half char ∷ rest) ≡ char ∷ digits rest
one_digit char rest is =
    let below : nat_lt (half char) 15 ≡ true = (let h = half_below char is in grind (arith, nat_tests)) in
    rw (below, read_half char is) refl

pub both_true : (x y : Bool) → (x && y) ≡ true → (x ≡ true) × (y ≡ true)
both_true true true e = (refl, refl)
both_true true false e = absurd (cc)
both_true false y e = absurd (cc)

pub digits_back : (chars : List ℕ) → list_all is_digit chars ≡ true → digits (take (length chars) (half_octets (semi_octets (map half chars)))) ≡ chars
digits_back [] all = refl
digits_back (low ∷ []) all =
    let here = both_true _ _ all in
    let small = half_below low here.0 in
    let first : (half low + 16 * 15) % 16 ≡ half low = omega (arith, small) in
    rw first (one_digit low [] here.0)
digits_back (low ∷ high ∷ chars) all =
    let here : (is_digit low ≡ true) × (list_all is_digit (high ∷ chars) ≡ true) = both_true _ _ all in
    let next : (is_digit high ≡ true) × (list_all is_digit chars ≡ true) = both_true _ _ here.1 in
    let small = half_below low here.0 in
    let first : (half low + 16 * half high) % 16 ≡ half low = omega (arith, small) in
    let second : (half low + 16 * half high) / 16 ≡ half high = omega (arith, small) in
    rw (first, second) (one_digit low (half high ∷ take (length chars) (half_octets (semi_octets (map half chars)))) here.0 ∙ ap (λ (l : List ℕ). low ∷ l) (one_digit high (take (length chars) (half_octets (semi_octets (map half chars)))) next.0 ∙ ap (λ (l : List ℕ). high ∷ l) (digits_back chars next.1)))

pub length-semi_octets : (halves : List ℕ) → length (semi_octets halves) ≡ (length halves + 1) / 2
length-semi_octets [] = refl
length-semi_octets (low ∷ []) = refl
length-semi_octets (low ∷ high ∷ halves) = let rest = length-semi_octets halves in omega (arith, rest)

-- the text of an address that is made is the number
pub number_back : (number : List ℕ) → list_all is_digit (digits_of number) ≡ true → address_text (length (digits_of number)) (number_kind number) (semi_octets (map half (digits_of number))) ≡ number
number_back [] all = refl
number_back (char ∷ number) all = by (char == 43) refl all
  where
    by : (plus : Bool) → (char == 43) ≡ plus → list_all is_digit (cond plus number (char ∷ number)) ≡ true
        → address_text (length (cond plus number (char ∷ number))) (cond plus 0x91 0x81) (semi_octets (map half (cond plus number (char ∷ number)))) ≡ char ∷ number
    by true is digits = let same : char ≡ 43 = grind (arith, nat_tests, is) in ap (λ (l : List ℕ). 43 ∷ l) (digits_back number digits) ∙ ap (λ (c : ℕ). c ∷ number) (sym same)
    by false is digits = digits_back (char ∷ number) digits

-- ---- UTF-16 ----

pub swapped_back : (units : List ℕ) → swapped (flat_map big_endian units) ≡ flat_map u16_bytes units
swapped_back [] = refl
swapped_back (unit ∷ units) = ap (λ (l : List ℕ). unit % 256 ∷ unit / 256 ∷ l) (swapped_back units)
