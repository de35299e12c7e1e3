-- How many units texts have in UTF-16.
use Rattle.std.proofs.Common.{◌≡◌, ℕ, ◌+◌, ◌-◌, ◌^◌, ◌<◌, ◌≤◌, min, nat_le, inl, inr, List, [], ◌∷◌, ◌++◌, length, refl, arith, lt-ltb, le-ltb, length-append}
use Rattle.std.specs.Char.Escape.{encode_utf16}
use Rattle.std.specs.List.{flat_map}
use Rattle.std.proofs.lemmas.Bool.Decides.{nat_tests}
use Rattle.std.proofs.str.Laws.{order}
use Rattle.modem_profile.specs.Limits.{utf16_length}

length-char : (char units : ℕ) → (char < 0x1_0000 → units ≡ 1) → (0x1_0000 ≤ char → units ≡ 2) → length (encode_utf16 char) ≡ units
length-char char units bmp pair = elim (order char 0x1_0000) [
  | inl below ↦ rw (lt-ltb char 0x1_0000 below, bmp below) refl
  | inr from ↦ rw (le-ltb char 0x1_0000 from, pair from) refl
]

utf16_length-append : (text : List ℕ) (char : ℕ) → utf16_length (text ++ char ∷ []) ≡ utf16_length text + length (encode_utf16 char)
utf16_length-append [] char = omega (arith, length-append (encode_utf16 char) [])
utf16_length-append (first ∷ text) char =
    omega (
      arith,
      length-append (encode_utf16 first) (flat_map encode_utf16 (text ++ char ∷ [])),
      length-append (encode_utf16 first) (flat_map encode_utf16 text),
      utf16_length-append text char,
    )

-- one character more
pub units-more : (text : List ℕ) (char units total more : ℕ) → total ≡ min (utf16_length text) (2 ^ 64 - 1) → more ≡ min (total + units) (2 ^ 64 - 1)
    → (char < 0x1_0000 → units ≡ 1) → (0x1_0000 ≤ char → units ≡ 2) → more ≡ min (utf16_length (text ++ char ∷ [])) (2 ^ 64 - 1)
units-more text char units total more is adds bmp pair =
    let longer = utf16_length-append text char in
    let char_is = length-char char units bmp pair in
    omega arith

-- the count shows whether there are at most 100
pub most-from_count : (units : ℕ) → nat_le (min units (2 ^ 64 - 1)) 100 ≡ nat_le units 100
most-from_count units = grind (arith, nat_tests)
