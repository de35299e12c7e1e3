-- Texts in UTF-16, each unit as two bytes, the low byte first.
-- Source: the Unicode Standard, section 3.9, "UTF-16", and section 3.10, "UTF-16LE".
use Rattle.std.specs.Prelude.{◌≡◌, ℕ, ◌+◌, ◌*◌, ◌%◌, ◌≤◌, ◌==◌, Bool, false, not, ◌&&◌, IsTrue, List, [], ◌∷◌, length, drop, Option, Some, None, Result, Ok, Err}
use Rattle.std.specs.List.{flat_map}
use Rattle.std.specs.Char.Escape.{encode_utf16}
use Rattle.std.specs.Char.Utf16.{utf16_chars, has_unpaired_surrogate}
use Rattle.kit_bytes.specs.Numbers.{u16_bytes}
use Rattle.kit_bytes.specs.declared.utf16.Utf16Fault.{Utf16Fault}
use Rattle.kit_bytes.specs.declared.utf16.Utf16Fault.TheVariants.{Lone, OutOfMemory}

-- ---- writing ----

-- the bytes that characters spell: `encode_utf16` has the one or two units of a character
abbrev pub utf16_bytes : List ℕ → List ℕ
utf16_bytes chars = flat_map u16_bytes (flat_map encode_utf16 chars)

-- ---- reading: `utf16_chars` has the characters that units spell, with None for an unpaired surrogate ----

-- the whole units of bytes
abbrev pub units_of : List ℕ → List ℕ
units_of [] = []
units_of (byte ∷ []) = []
units_of (low ∷ high ∷ bytes) = (low + 256 * high) ∷ units_of bytes

-- the characters before the first None
abbrev pub leading_chars : List (Option ℕ) → List ℕ
leading_chars [] = []
leading_chars (None ∷ rest) = []
leading_chars (Some char ∷ rest) = char ∷ leading_chars rest

-- the characters that bytes spell, up to the first unpaired surrogate
abbrev pub utf16_text : List ℕ → List ℕ
utf16_text bytes = leading_chars (utf16_chars (units_of bytes))

-- the bytes are whole units, and each surrogate among them is paired
abbrev pub is_utf16 : List ℕ → Bool
is_utf16 bytes = length bytes % 2 == 0 && not (has_unpaired_surrogate (units_of bytes))

-- where the first unpaired surrogate begins, and where there is none, the byte that is in no unit: each stands right behind the characters that the bytes spell
abbrev pub lone_place : List ℕ → ℕ
lone_place bytes = length (utf16_bytes (utf16_text bytes))

-- the text that bytes spell, or the place at which they spell none
abbrev pub ReadsUtf16 : List ℕ → Result (List ℕ) Utf16Fault → Type 0
ReadsUtf16 bytes (Ok text) = IsTrue (is_utf16 bytes) × (text ≡ utf16_text bytes)
ReadsUtf16 bytes (Err (Lone place)) = (is_utf16 bytes ≡ false) × (place ≡ lone_place bytes)
ReadsUtf16 bytes (Err OutOfMemory) = Unit {0}

-- ---- one character ----

-- what bytes spell from a place on is a character, and then what they spell from the next place on
pub record SpellsAt (bytes : List ℕ) (place char next : ℕ) : Type 0 where
  pub next_is : next ≡ place + length (utf16_bytes (char ∷ []))
  pub within : next ≤ length bytes
  pub text : utf16_text (drop place bytes) ≡ char ∷ utf16_text (drop next bytes)
  pub same : is_utf16 (drop place bytes) ≡ is_utf16 (drop next bytes)

-- the character at a place and where the next one begins, if bytes spell one there
abbrev pub ReadsCharAt : List ℕ → ℕ → Option (ℕ × ℕ) → Type 0
ReadsCharAt bytes place (Some read) = SpellsAt bytes place read.0 read.1
ReadsCharAt bytes place None = (utf16_text (drop place bytes) ≡ []) × (is_utf16 (drop place bytes) ≡ false)
