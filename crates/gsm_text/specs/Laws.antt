-- Laws of texts in the default alphabet.
use Rattle.std.specs.Prelude.{◌≡◌, ◌≢◌, ℕ, ◌<◌, ◌≤◌, List, [], ◌∷◌, length, None, All}
use Rattle.gsm_text.specs.declared.alphabet.TheConstants.{ESCAPE}
use Rattle.gsm_text.specs.Alphabet.{char_codes, char_of, chars_of, codes_of, first_outside}
use Rattle.gsm_text.specs.Packing.{pack, unpack}

-- a text whose characters have codes is read back from them
abbrev pub ReadsBack : Type 0
ReadsBack = (text : List ℕ) → first_outside text ≡ None → chars_of (codes_of text) ≡ text

-- and each of its codes has 7 bits
abbrev pub CodesAreSmall : Type 0
CodesAreSmall = (text : List ℕ) → All (λ code. code < 128) (codes_of text)

-- each code but the escape is that of its character
abbrev pub CodesAreWritten : Type 0
CodesAreWritten = (code : ℕ) → code < 128 → code ≢ ESCAPE → char_codes (char_of code) ≡ code ∷ []

-- packed codes are unpacked
abbrev pub UnpacksPacked : Type 0
UnpacksPacked = (codes : List ℕ) (fill : ℕ) → All (λ code. code < 128) codes → fill ≤ 6 → unpack (pack codes fill) fill (length codes) ≡ codes
