-- What bytes spell in UTF-16, one character after another.
use Rattle.std.proofs.Common.{◌≡◌, ℕ, suc, ◌+◌, ◌*◌, ◌%◌, ◌<◌, ◌≤◌, ◌==◌, ◌⊎◌, Bool, true, false, not, ◌&&◌, List, [], ◌∷◌, ◌++◌, length, drop, get_or, Option, None, Some, is_some, IsTrue, encode_utf8, flat_map, inl, inr, refl, sym, ap, ap₂, ◌∙◌, arith, add-one, append_assoc, append-nil, length-append, length-drop, drop-cons, drop_of_length-le}
use Rattle.std.specs.List.{list_any}
use Rattle.std.specs.Str.{encode_utf8_all}
use Rattle.std.specs.Char.Escape.{encode_utf16}
use Rattle.std.specs.Char.Utf16.{utf16_chars, lone_unit_char, surrogate_pair_char}
use Rattle.std.proofs.str.Utf16.{IsPair, one_unit, two_units, lone_unit_char_low, lone_unit_char_high, lone_unit_char_surrogate}
use Rattle.std.proofs.lemmas.Str.{encodes_same, utf16_chars-nil, utf16_chars_lone, utf16_chars_pair}
use Rattle.std.proofs.lemmas.Grind.{flat_map-append}
use Rattle.std.proofs.lemmas.List.{flat_map_more}
use Rattle.kit_bytes.specs.Numbers.{u16_bytes}
use Rattle.kit_bytes.specs.Utf16.{utf16_bytes, units_of, leading_chars, utf16_text, is_utf16, SpellsAt, ReadsCharAt}

-- ---- the first character ----

-- bytes spell a character, or None for an unpaired surrogate, and then what the rest spells
pub record Leads (bytes : List ℕ) (char : Option ℕ) (rest : List ℕ) : Type 0 where
  pub whole : length bytes % 2 ≡ length rest % 2
  pub chars : utf16_chars (units_of bytes) ≡ char ∷ utf16_chars (units_of rest)

pub Leads-text : {bytes rest : List ℕ} {char : ℕ} → Leads bytes (Some char) rest → utf16_text bytes ≡ char ∷ utf16_text rest
Leads-text leads = ap leading_chars leads.chars

pub Leads-same : {bytes rest : List ℕ} {char : ℕ} → Leads bytes (Some char) rest → is_utf16 bytes ≡ is_utf16 rest
Leads-same leads = ap₂ (λ left chars. left == 0 && not (list_any (λ o. not (is_some o)) chars)) leads.whole leads.chars

and-false : (b : Bool) → (b && false) ≡ false
and-false true = refl
and-false false = refl

pub Leads-stop : {bytes rest : List ℕ} → Leads bytes None rest → (utf16_text bytes ≡ []) × (is_utf16 bytes ≡ false)
Leads-stop {bytes} leads =
    (ap leading_chars leads.chars, ap (λ chars. length bytes % 2 == 0 && not (list_any (λ o. not (is_some o)) chars)) leads.chars ∙ and-false _)

pub Leads-one : (low high : ℕ) (rest : List ℕ) → ¬ (IsPair (low + 256 * high) (get_or (units_of rest) 0 0))
    → Leads (low ∷ high ∷ rest) (lone_unit_char (low + 256 * high)) rest
Leads-one low high rest apart = record { whole = omega arith; chars = utf16_chars_lone _ _ apart }

pub Leads-pair : (a b c d : ℕ) (rest : List ℕ) → IsPair (a + 256 * b) (c + 256 * d)
    → Leads (a ∷ b ∷ c ∷ d ∷ rest) (Some (surrogate_pair_char (a + 256 * b) (c + 256 * d))) rest
Leads-pair a b c d rest pair = record { whole = omega arith; chars = utf16_chars_pair _ _ _ pair }

-- ---- at a place ----

drop-two : (bytes : List ℕ) (place : ℕ) → place + 2 ≤ length bytes → drop place bytes ≡ get_or bytes place 0 ∷ get_or bytes (place + 1) 0 ∷ drop (place + 2) bytes
drop-two bytes place within =
    let next : place + 2 ≡ suc (place + 1) = omega arith in
    rw (drop-cons bytes place 0 (omega arith), ← add-one place, drop-cons bytes (place + 1) 0 (omega arith), next) refl

-- the unit that begins at a place
abbrev unit_at : List ℕ → ℕ → ℕ
unit_at bytes place = get_or bytes place 0 + 256 * get_or bytes (place + 1) 0

next_unit : (bytes : List ℕ) (place : ℕ) → place + 2 ≤ length bytes → get_or (units_of (drop place bytes)) 0 0 ≡ unit_at bytes place
next_unit bytes place within = rw (drop-two bytes place within) refl

few_units : (bytes : List ℕ) → length bytes < 2 → units_of bytes ≡ []
few_units [] few = refl
few_units (byte ∷ []) few = refl
few_units (low ∷ high ∷ bytes) few = absurd (omega arith)

Leads-at : (bytes : List ℕ) (place first : ℕ) → first ≡ unit_at bytes place → place + 2 ≤ length bytes → ¬ (IsPair first (get_or (units_of (drop (place + 2) bytes)) 0 0))
    → Leads (drop place bytes) (lone_unit_char first) (drop (place + 2) bytes)
Leads-at bytes place first is within apart = rw (drop-two bytes place within, is) (Leads-one _ _ _ (rw is at apart))

Leads-at_pair : (bytes : List ℕ) (place first second : ℕ) → first ≡ unit_at bytes place → second ≡ unit_at bytes (place + 2) → place + 4 ≤ length bytes → IsPair first second
    → Leads (drop place bytes) (Some (surrogate_pair_char first second)) (drop (place + 4) bytes)
Leads-at_pair bytes place first second first_is second_is within pair =
    let next : place + 4 ≡ place + 2 + 2 = omega arith in
    rw (drop-two bytes place (omega arith), drop-two bytes (place + 2) (omega arith), next, first_is, second_is)
    (Leads-pair _ _ _ _ _ (rw (first_is, second_is) at pair))

-- ---- the answers at a place ----

pub second_of : {A B C : Type 0} → A ⊎ (B × C) → A ⊎ C
second_of (inl a) = inl a
second_of (inr both) = inr both.1

pub length-one : (char : ℕ) → char < 0x1_0000 → length (utf16_bytes (char ∷ [])) ≡ 2
length-one char below = rw (one_unit char below) refl

pub length-two : (char : ℕ) → 0x1_0000 ≤ char → length (utf16_bytes (char ∷ [])) ≡ 4
length-two char from = rw (two_units char from) refl

pub lone_unit_char-single : (char : ℕ) → (char < 0xD800) ⊎ (0xE000 ≤ char) → lone_unit_char char ≡ Some char
lone_unit_char-single char (inl below) = lone_unit_char_low char below
lone_unit_char-single char (inr from) = lone_unit_char_high char from

pub SpellsAt-one : (bytes : List ℕ) (place char : ℕ) → char ≡ unit_at bytes place → place + 2 ≤ length bytes → char < 0x1_0000 → (char < 0xD800) ⊎ (0xE000 ≤ char)
    → SpellsAt bytes place char (place + 2)
SpellsAt-one bytes place char is within unit single =
    let apart : ¬ (IsPair char (get_or (units_of (drop (place + 2) bytes)) 0 0)) = λ pair. elim single [ inl below ↦ omega arith | inr from ↦ omega arith ] in
    let leads = rw (lone_unit_char-single char single) at (Leads-at bytes place char is within apart) in
    record { next_is = omega (arith, length-one char unit); within = within; text = Leads-text leads; same = Leads-same leads }

pub SpellsAt-pair : (bytes : List ℕ) (place first second char : ℕ) → first ≡ unit_at bytes place → second ≡ unit_at bytes (place + 2) → place + 4 ≤ length bytes
    → IsPair first second → char ≡ surrogate_pair_char first second → SpellsAt bytes place char (place + 4)
SpellsAt-pair bytes place first second char first_is second_is within pair is =
    let leads = rw (← is) at (Leads-at_pair bytes place first second first_is second_is within pair) in
    record { next_is = omega (arith, length-two char (omega arith)); within = within; text = Leads-text leads; same = Leads-same leads }

pub ReadsCharAt-odd : (bytes : List ℕ) (place : ℕ) → place < length bytes → length bytes < place + 2 → ReadsCharAt bytes place None
ReadsCharAt-odd bytes place within short =
    rw (drop-cons bytes place 0 within, drop_of_length-le bytes {i = suc place} (omega arith)) (ap leading_chars utf16_chars-nil, refl)

unpaired : (bytes : List ℕ) (place first : ℕ) → first ≡ unit_at bytes place → place + 2 ≤ length bytes → 0xD800 ≤ first → first < 0xE000
    → ¬ (IsPair first (get_or (units_of (drop (place + 2) bytes)) 0 0)) → ReadsCharAt bytes place None
unpaired bytes place first is within from below apart =
    Leads-stop (rw (lone_unit_char_surrogate first from below) at (Leads-at bytes place first is within apart))

-- a low surrogate, or any surrogate as the last whole unit
pub ReadsCharAt-first : (bytes : List ℕ) (place first : ℕ) → first ≡ unit_at bytes place → place + 2 ≤ length bytes → 0xD800 ≤ first → first < 0xE000
    → (0xDC00 ≤ first) ⊎ (length bytes < place + 4) → ReadsCharAt bytes place None
ReadsCharAt-first bytes place first is within from below (inl low) = unpaired bytes place first is within from below (λ pair. omega arith)
ReadsCharAt-first bytes place first is within from below (inr last) =
    let none : get_or (units_of (drop (place + 2) bytes)) 0 0 ≡ 0 = rw (few_units (drop (place + 2) bytes) (omega (arith, length-drop (place + 2) bytes))) refl in
    unpaired bytes place first is within from below (λ pair. omega arith)

-- a surrogate before a unit that is no low surrogate
pub ReadsCharAt-second : (bytes : List ℕ) (place first second : ℕ) → first ≡ unit_at bytes place → second ≡ unit_at bytes (place + 2) → place + 4 ≤ length bytes
    → 0xD800 ≤ first → first < 0xE000 → (second < 0xDC00) ⊎ (0xE000 ≤ second) → ReadsCharAt bytes place None
ReadsCharAt-second bytes place first second is second_is within from below other =
    let seen : get_or (units_of (drop (place + 2) bytes)) 0 0 ≡ second = next_unit bytes (place + 2) (omega arith) ∙ sym second_is in
    unpaired bytes place first is (omega arith) from below (λ pair. elim other [ inl low ↦ omega arith | inr high ↦ omega arith ])

-- ---- the loop ----

-- the bytes up to a place spell these characters, which are written as this text
pub record HasRead (bytes : List ℕ) (place : ℕ) (text : List ℕ) : Type 0 where
  pub chars : List ℕ
  pub written : text ≡ encode_utf8_all chars
  pub place_is : place ≡ length (utf16_bytes chars)
  pub within : place ≤ length bytes
  pub spelled : utf16_text bytes ≡ chars ++ utf16_text (drop place bytes)
  pub same : is_utf16 bytes ≡ is_utf16 (drop place bytes)

pub utf16_bytes-append : (front back : List ℕ) → utf16_bytes (front ++ back) ≡ utf16_bytes front ++ utf16_bytes back
utf16_bytes-append front back = ap (flat_map u16_bytes) (flat_map-append encode_utf16 front back) ∙ flat_map-append u16_bytes (flat_map encode_utf16 front) (flat_map encode_utf16 back)

pub HasRead-more : (bytes : List ℕ) (place char next : ℕ) (text : List ℕ) → SpellsAt bytes place char next → HasRead bytes place text → HasRead bytes next (text ++ encode_utf8 char)
HasRead-more bytes place char next text spells read = record {
  chars = read.chars ++ char ∷ [];
  written = ap (λ written. written ++ encode_utf8 char) read.written ∙ flat_map_more encode_utf8 [] read.chars char;
  place_is = omega (arith, spells.next_is, read.place_is, length-append (utf16_bytes read.chars) (utf16_bytes (char ∷ [])), ap length (utf16_bytes-append read.chars (char ∷ [])));
  within = spells.within;
  spelled = read.spelled ∙ ap (λ rest. read.chars ++ rest) spells.text ∙ sym (append_assoc read.chars (char ∷ []) _);
  same = read.same ∙ spells.same;
}

pub HasRead-all : (bytes : List ℕ) (place : ℕ) (text chars : List ℕ) → length bytes ≤ place → encode_utf8_all chars ≡ text → HasRead bytes place text
    → IsTrue (is_utf16 bytes) × (chars ≡ utf16_text bytes)
HasRead-all bytes place text chars past written read =
    let nothing = drop_of_length-le bytes past in
    let chars_is = encodes_same chars read.chars (written ∙ read.written) in
    let none = utf16_chars-nil in
    (rw (read.same, nothing, none) refl, chars_is ∙ sym (append-nil read.chars) ∙ sym (rw (nothing, none) at read.spelled))
