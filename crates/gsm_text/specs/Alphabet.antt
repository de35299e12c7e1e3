-- Texts in the default alphabet: each character as a code of 7 bits, or as the escape and a code of the extension table.
-- Source: 3GPP TS 23.038, sections 6.2.1 and 6.2.1.1, whose tables are `ALPHABET` and `EXTENSION`.
use Rattle.std.specs.Prelude.{◌≡◌, ℕ, ◌==◌, nat_lt, Bool, not, List, [], ◌∷◌, length, slice_index, Option, Some, None, find, position, unwrap_or, option_map, if◌then◌else◌, Result, Ok, Err}
use Rattle.std.specs.List.{flat_map}
use Rattle.gsm_text.specs.declared.alphabet.TheConstants.{ESCAPE, ALPHABET, EXTENSION}
use Rattle.gsm_text.specs.declared.codes.CodeFault.{CodeFault}
use Rattle.gsm_text.specs.declared.codes.CodeFault.TheVariants.{Outside, OutOfMemory}

-- ---- from codes to characters ----

-- the character of a code
abbrev pub char_of : ℕ → ℕ
char_of code = slice_index ALPHABET code

-- the character of a code in the extension table
abbrev pub extension_char : ℕ → Option ℕ
extension_char code = option_map (λ entry. entry.1) (find (λ entry. entry.0 == code) EXTENSION)

-- the character of a code behind the escape: the extension table's, and else its own; that of the escape is a space
abbrev pub extended_char : ℕ → ℕ
extended_char code = if code == ESCAPE then 32 else unwrap_or (extension_char code) (char_of code)

-- the characters of codes; an escape that is the last code is a space
abbrev mutual
  pub chars_of : List ℕ → List ℕ
  chars_of [] = []
  chars_of (code ∷ codes) = if code == ESCAPE then chars_behind codes else char_of code ∷ chars_of codes

  pub chars_behind : List ℕ → List ℕ
  chars_behind [] = 32 ∷ []
  chars_behind (code ∷ codes) = extended_char code ∷ chars_of codes

-- ---- from characters to codes ----

-- the code of a character in the alphabet
abbrev pub code_of : ℕ → Option ℕ
code_of char = if char == ESCAPE then None else position (λ other. other == char) ALPHABET

-- the code of a character in the extension table
abbrev pub extension_code : ℕ → Option ℕ
extension_code char = option_map (λ entry. entry.0) (find (λ entry. entry.1 == char) EXTENSION)

abbrev pub codes_by : (code extension_code : Option ℕ) → List ℕ
codes_by (Some code) _ = code ∷ []
codes_by None (Some code) = ESCAPE ∷ code ∷ []
codes_by None None = []

-- the codes of a character, if it has any
abbrev pub char_codes : ℕ → List ℕ
char_codes char = codes_by (code_of char) (extension_code char)

abbrev pub has_codes : ℕ → Bool
has_codes char = nat_lt 0 (length (char_codes char))

abbrev pub codes_of : List ℕ → List ℕ
codes_of text = flat_map char_codes text

-- the index of the first character that has no codes
abbrev pub first_outside : List ℕ → Option ℕ
first_outside text = position (λ char. not (has_codes char)) text

abbrev pub SpellsText : List ℕ → Result (List ℕ) CodeFault → Type 0
SpellsText text (Ok codes) = (first_outside text ≡ None) × (codes ≡ codes_of text)
SpellsText text (Err (Outside index)) = first_outside text ≡ Some index
SpellsText text (Err OutOfMemory) = Unit {0}
