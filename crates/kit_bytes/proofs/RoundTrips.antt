-- Reading gives back the characters that were written, and writing the bytes that were read.
use Rattle.std.proofs.Common.{◌≡◌, ℕ, suc, ◌+◌, ◌-◌, ◌*◌, ◌/◌, ◌%◌, ◌<◌, ◌≤◌, ◌⊎◌, true, true≢false, List, [], ◌∷◌, ◌++◌, get_or, Some, All, IsTrue, flat_map, inl, inr, refl, sym, ap, ap₂, ◌∙◌, add_assoc, arith}
use Rattle.std.proofs.Math.Utf8.{scalar, scalars, scalar_cases}
use Rattle.std.proofs.lemmas.Str.{utf16_chars-nil}
use Rattle.std.specs.Char.Escape.{encode_utf16}
use Rattle.std.specs.Char.Utf16.{surrogate_pair_char}
use Rattle.std.proofs.str.Laws.{both, order}
use Rattle.std.proofs.str.Utf16.{IsPair, one_unit, two_units, pair_units, lone_unit_char_surrogate}
use Rattle.kit_bytes.specs.Laws.{GivesBackChars, GivesBackBytes}
use Rattle.kit_bytes.specs.Numbers.{u16_bytes}
use Rattle.kit_bytes.specs.Utf16.{utf16_bytes, units_of, utf16_text, is_utf16}
use Rattle.kit_bytes.proofs.Spelling.{Leads, Leads-text, Leads-same, Leads-stop, Leads-one, Leads-pair, lone_unit_char-single, utf16_bytes-append}

-- ---- reading what was written ----

-- a character of one unit, and one of two
Leads-unit : (char : ℕ) (rest : List ℕ) → char < 0x1_0000 → (char < 0xD800) ⊎ (0xE000 ≤ char) → Leads (utf16_bytes (char ∷ []) ++ rest) (Some char) rest
Leads-unit char rest below single =
    let unit : char % 256 + 256 * (char / 256) ≡ char = omega arith in
    let apart : ¬ (IsPair char (get_or (units_of rest) 0 0)) = λ pair. elim single [ inl low ↦ omega arith | inr high ↦ omega arith ] in
    rw (one_unit char below) (rw (unit, lone_unit_char-single char single) at (Leads-one (char % 256) (char / 256) rest (rw unit apart)))

Leads-units : (char high low : ℕ) (rest : List ℕ) → high ≡ 0xD800 + (char - 0x1_0000) / 0x400 → low ≡ 0xDC00 + (char - 0x1_0000) % 0x400
    → 0x1_0000 ≤ char → char < 0x11_0000 → Leads (u16_bytes high ++ u16_bytes low ++ rest) (Some char) rest
Leads-units char high low rest high_is low_is from below =
    let first : high % 256 + 256 * (high / 256) ≡ high = omega arith in
    let second : low % 256 + 256 * (low / 256) ≡ low = omega arith in
    let pair : IsPair high low = (omega arith, omega arith, omega arith, omega arith) in
    let is : surrogate_pair_char high low ≡ char = omega arith in
    rw (first, second, is) at (Leads-pair (high % 256) (high / 256) (low % 256) (low / 256) rest (rw (first, second) pair))

Leads-written : (char : ℕ) (rest : List ℕ) → scalar char ≡ true → Leads (utf16_bytes (char ∷ []) ++ rest) (Some char) rest
Leads-written char rest is = elim (order char 0x1_0000) [
  | inl below ↦ Leads-unit char rest below (elim (scalar_cases char is) [ inl low ↦ inl low | inr high ↦ inr high.0 ])
  | inr from ↦ rw (two_units char from) (Leads-units char _ _ rest refl refl from (elim (scalar_cases char is) [ inl low ↦ omega arith | inr high ↦ high.1 ]))
]

pub reads_written : GivesBackChars
reads_written [] scalars = (rw utf16_chars-nil refl, rw utf16_chars-nil refl)
reads_written (char ∷ chars) scalars =
    let parts = both _ _ scalars in
    let leads = Leads-written char (utf16_bytes chars) parts.0 in
    let more = reads_written chars parts.1 in
    rw (utf16_bytes-append (char ∷ []) chars) (Leads-same leads ∙ more.0, Leads-text leads ∙ ap (λ read. char ∷ read) more.1)

-- ---- writing what was read ----

pair_or_not : (first second : ℕ) → IsPair first second ⊎ (¬ (IsPair first second))
pair_or_not first second = elim (order first 0xD800) [
  | inl below ↦ inr (λ pair. omega arith)
  | inr from ↦ elim (order first 0xDC00) [
    | inr past ↦ inr (λ pair. omega arith)
    | inl high ↦ elim (order second 0xDC00) [
      | inl below ↦ inr (λ pair. omega arith)
      | inr second_from ↦ elim (order second 0xE000) [ inl low ↦ inl (from, high, second_from, low) | inr past ↦ inr (λ pair. omega arith) ]
    ]
  ]
]

u16_bytes-is : (low high : ℕ) → low < 256 → high < 256 → u16_bytes (low + 256 * high) ≡ low ∷ high ∷ []
u16_bytes-is low high low_fits high_fits = ap₂ (λ x y. x ∷ y ∷ []) (omega arith) (omega arith)

-- the bytes of a first character, and then the rest
writes_more : (bytes rest front : List ℕ) (char : ℕ) → Leads bytes (Some char) rest → utf16_bytes (char ∷ []) ≡ front → bytes ≡ front ++ rest
    → IsTrue (is_utf16 bytes) → (IsTrue (is_utf16 rest) → utf16_bytes (utf16_text rest) ≡ rest) → utf16_bytes (utf16_text bytes) ≡ bytes
writes_more bytes rest front char leads written is whole more =
    ap utf16_bytes (Leads-text leads) ∙ utf16_bytes-append (char ∷ []) (utf16_text rest)
    ∙ ap₂ (λ xs ys. xs ++ ys) written (more (sym (Leads-same leads) ∙ whole)) ∙ sym is

writes_unit : (low high : ℕ) (rest : List ℕ) → low < 256 → high < 256 → ¬ (IsPair (low + 256 * high) (get_or (units_of rest) 0 0))
    → IsTrue (is_utf16 (low ∷ high ∷ rest)) → (IsTrue (is_utf16 rest) → utf16_bytes (utf16_text rest) ≡ rest)
    → utf16_bytes (utf16_text (low ∷ high ∷ rest)) ≡ low ∷ high ∷ rest
writes_unit low high rest low_fits high_fits apart whole more =
    let unit = low + 256 * high in
    let leads = Leads-one low high rest apart in
    let single = λ (single : (unit < 0xD800) ⊎ (0xE000 ≤ unit)).
    writes_more (low ∷ high ∷ rest) rest (low ∷ high ∷ []) unit (rw (lone_unit_char-single unit single) at leads) (rw (one_unit unit (omega arith)) (u16_bytes-is low high low_fits high_fits)) refl whole more in
    elim (order unit 0xD800) [
      | inl below ↦ single (inl below)
      | inr from ↦ elim (order unit 0xE000) [
        | inr past ↦ single (inr past)
        | inl below ↦ absurd (true≢false (sym whole ∙ (Leads-stop (rw (lone_unit_char_surrogate unit from below) at leads)).1))
      ]
    ]

writes_pair : (a b c d : ℕ) (rest : List ℕ) → a < 256 → b < 256 → c < 256 → d < 256 → IsPair (a + 256 * b) (c + 256 * d)
    → IsTrue (is_utf16 (a ∷ b ∷ c ∷ d ∷ rest)) → (IsTrue (is_utf16 rest) → utf16_bytes (utf16_text rest) ≡ rest)
    → utf16_bytes (utf16_text (a ∷ b ∷ c ∷ d ∷ rest)) ≡ a ∷ b ∷ c ∷ d ∷ rest
writes_pair a b c d rest a_fits b_fits c_fits d_fits pair whole more =
    let first = a + 256 * b in
    let second = c + 256 * d in
    let units : encode_utf16 (surrogate_pair_char first second) ≡ first ∷ second ∷ [] =
    ap encode_utf16 (add_assoc 0x1_0000 ((first - 0xD800) * 0x400) (second - 0xDC00)) ∙ pair_units first second pair.0 pair.2 pair.3 in
    let written = ap (λ units. flat_map u16_bytes (units ++ [])) units
    ∙ ap₂ (λ xs ys. xs ++ ys ++ []) (u16_bytes-is a b a_fits b_fits) (u16_bytes-is c d c_fits d_fits) in
    writes_more (a ∷ b ∷ c ∷ d ∷ rest) rest (a ∷ b ∷ c ∷ d ∷ []) _ (Leads-pair a b c d rest pair) written refl whole more

tail_fits : (byte : ℕ) (bytes : List ℕ) → All (λ b. b < 256) (byte ∷ bytes) → All (λ b. b < 256) bytes
tail_fits byte bytes fits = λ k d below. fits (suc k) d (omega arith)

pub writes_read : GivesBackBytes
writes_read [] fits whole = rw utf16_chars-nil refl
writes_read (a ∷ []) fits whole = absurd (true≢false (sym whole))
writes_read (a ∷ b ∷ []) fits whole =
    writes_unit a b [] (fits 0 0 (omega arith)) (fits 1 0 (omega arith)) (λ pair. omega arith) whole (λ _. rw utf16_chars-nil refl)
writes_read (a ∷ b ∷ c ∷ []) fits whole = absurd (true≢false (sym whole))
writes_read (a ∷ b ∷ c ∷ d ∷ rest) fits whole =
    let from_c = tail_fits b (c ∷ d ∷ rest) (tail_fits a (b ∷ c ∷ d ∷ rest) fits) in
    let from_rest = tail_fits d rest (tail_fits c (d ∷ rest) from_c) in
    let first = fits 0 0 (omega arith) in
    let second = fits 1 0 (omega arith) in
    elim (pair_or_not (a + 256 * b) (c + 256 * d)) [
      | inl pair ↦ writes_pair a b c d rest first second (fits 2 0 (omega arith)) (fits 3 0 (omega arith)) pair whole (writes_read rest from_rest)
      | inr apart ↦ writes_unit a b (c ∷ d ∷ rest) first second apart whole (writes_read (c ∷ d ∷ rest) from_c)
    ]
