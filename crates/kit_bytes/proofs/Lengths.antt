-- How long a text is in UTF-16.
use Rattle.std.proofs.Common.{◌≡◌, ℕ, ◌*◌, ◌≤◌, List, [], ◌∷◌, ◌++◌, length, encode_utf8, inl, inr, ap, arith, rules, length-append}
use Rattle.std.specs.Str.{encode_utf8_all}
use Rattle.std.specs.Char.{len_utf8}
use Rattle.std.proofs.str.Laws.{order}
use Rattle.std.proofs.lemmas.Str.{length-encode, len_utf8_bounds}
use Rattle.kit_bytes.specs.Utf16.{utf16_bytes}
use Rattle.kit_bytes.proofs.Spelling.{length-one, length-two, utf16_bytes-append}

long_char : (char : ℕ) → 0x1_0000 ≤ char → len_utf8 char ≡ 4
long_char char from = search rules

char_short : (char : ℕ) → length (utf16_bytes (char ∷ [])) ≤ 2 * length (encode_utf8 char)
char_short char = elim (order char 0x1_0000) [
  | inl below ↦ omega (arith, length-one char below, length-encode char, (len_utf8_bounds char).0)
  | inr from ↦ omega (arith, length-two char from, length-encode char, long_char char from)
]

-- at most twice as long as in UTF-8
pub utf16_short : (chars : List ℕ) → length (utf16_bytes chars) ≤ 2 * length (encode_utf8_all chars)
utf16_short [] = omega arith
utf16_short (char ∷ chars) =
    omega (
      arith,
      ap length (utf16_bytes-append (char ∷ []) chars),
      length-append (utf16_bytes (char ∷ [])) (utf16_bytes chars),
      length-append (encode_utf8 char) (encode_utf8_all chars),
      char_short char,
      utf16_short chars,
    )
