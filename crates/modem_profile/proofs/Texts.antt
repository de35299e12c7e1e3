-- Texts of ASCII: each character is one byte.
use Rattle.std.proofs.Common.{◌≡◌, ℕ, suc, ◌&&◌, Bool, true, false, nat_le, List, [], ◌∷◌, length, refl, sym, ◌∙◌, true≢false, ltb-true, lt-ltb, leb-true, arith}
use Rattle.std.specs.Prelude.{MatchBool}
use Rattle.std.specs.Char.{is_ascii}
use Rattle.std.specs.List.{list_all}
use Rattle.std.specs.Str.{IsAscii, IsNotAscii, IsUtf8, chars, encode_utf8_all}
use Rattle.std.proofs.lemmas.List.Sums.{AllPass-from_list_all}
use Rattle.std.proofs.lemmas.Str.{chars-IsAscii, encodes-IsAscii, encodes-chars, encodes_same}
use Rattle.std.proofs.lemmas.Str.Ascii.{IsAscii-from_all}
use Rattle.modem_profile.specs.Limits.{IsShortAscii, is_short_ascii}

both : (a b : Bool) → (a && b) ≡ true → (a ≡ true) × (b ≡ true)
both true b h = (refl, h)
both false b h = absurd (true≢false (sym h))

IsAscii-from_test : (text : List ℕ) → list_all is_ascii text ≡ true → IsAscii text
IsAscii-from_test text all = IsAscii-from_all text (λ k d within. ltb-true _ _ (AllPass-from_list_all is_ascii text all k d within))

test-from_IsAscii : (text : List ℕ) → IsAscii text → list_all is_ascii text ≡ true
test-from_IsAscii [] ascii = refl
test-from_IsAscii (x ∷ text) ascii = rw (lt-ltb x 128 (ascii 0)) (test-from_IsAscii text (λ i. ascii (suc i)))

-- what the test tells
pub IsShortAscii-from_test : (text : List ℕ) → is_short_ascii text ≡ true → IsShortAscii text
IsShortAscii-from_test text test =
    let parts = both (list_all is_ascii text) (nat_le (length text) 100) test in
    record { ascii = IsAscii-from_test text parts.0; short = leb-true (length text) 100 parts.1 }

-- a text whose bytes pass the test has them as its characters
pub same_from_test : (copy bytes : List ℕ) → encode_utf8_all copy ≡ bytes → is_short_ascii bytes ≡ true → copy ≡ bytes
same_from_test copy bytes spell test = encodes_same copy bytes (spell ∙ sym (encodes-IsAscii bytes (IsShortAscii-from_test bytes test).ascii))

not_ascii : (bytes : List ℕ) → IsUtf8 bytes → IsNotAscii bytes → (b : Bool) → list_all is_ascii (chars bytes) ≡ b → b ≡ false
not_ascii bytes utf8 high true all =
    let ascii = IsAscii-from_test (chars bytes) all in
    let same : chars bytes ≡ bytes = sym (encodes-IsAscii (chars bytes) ascii) ∙ encodes-chars bytes utf8 in
    let below = (rw same at ascii) high.0 in
    absurd (omega (arith, high.1, below))
not_ascii bytes utf8 high false all = refl

-- the test of a text's characters, by its bytes
pub is_short_ascii-chars : (bytes : List ℕ) → IsUtf8 bytes → (ascii : Bool) → MatchBool ascii (IsAscii bytes) (IsNotAscii bytes)
    → is_short_ascii (chars bytes) ≡ (ascii && nat_le (length bytes) 100)
is_short_ascii-chars bytes utf8 true ascii = rw (chars-IsAscii bytes ascii, test-from_IsAscii bytes ascii) refl
is_short_ascii-chars bytes utf8 false high = rw (not_ascii bytes utf8 high _ refl) refl

-- and its characters are its bytes where it passes
pub chars-short_ascii : (bytes : List ℕ) → IsUtf8 bytes → is_short_ascii (chars bytes) ≡ true → chars bytes ≡ bytes
chars-short_ascii bytes utf8 test =
    sym (encodes-IsAscii (chars bytes) (IsShortAscii-from_test (chars bytes) test).ascii) ∙ encodes-chars bytes utf8
