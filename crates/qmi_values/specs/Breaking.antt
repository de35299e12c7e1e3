-- Where bytes stop being the spelling of a value.
-- The fields of a spelling are its numbers, its texts with their counts, and the counts of its lists.
use Rattle.std.specs.Prelude.{◌≡◌, ℕ, ◌+◌, ◌<◌, List, [], ◌++◌, length, take, ◌⊎◌}
use Rattle.qmi_shapes.specs.declared.shape.Prefix.{Prefix}
use Rattle.qmi_shapes.specs.declared.shape.Prefix.TheVariants.{Rest, Fixed, Counted}
use Rattle.qmi_shapes.specs.Form.{Form, unsigned, signed, string, array, sequence, Fields, no_fields, field}
use Rattle.qmi_values.specs.Value.{Value}
use Rattle.qmi_values.specs.Numbers.{little_endian}
use Rattle.qmi_values.specs.Spelling.{Follows, IsCount, EachSpells, Spells}

-- so many bytes, or a count in so many bytes with as many bytes behind it
pub data Field : Type 0 where
  fixed : ℕ → Field
  counted : ℕ → Field

-- how many bytes a field takes at the front of these
abbrev pub room : Field → List ℕ → ℕ
room (fixed size) bytes = size
room (counted size) bytes = size + little_endian (take size bytes)

-- the field that a text is, if its end is known
abbrev pub IsText : Prefix → Field → Type 0
IsText Rest next = ⊥
IsText (Fixed size) next = next ≡ fixed size
IsText (Counted size) next = next ≡ counted size

-- the field that a list's count is, if it has one
abbrev pub IsListCount : Prefix → Field → Type 0
IsListCount Rest next = ⊥
IsListCount (Fixed size) next = ⊥
IsListCount (Counted size) next = next ≡ fixed size

abbrev mutual
  -- the bytes are the first fields of a spelling, and then comes this one
  pub ComesBehind : Form → Field → List ℕ → Type 0
  ComesBehind (unsigned size) next bytes = (next ≡ fixed size) × (bytes ≡ [])
  ComesBehind (signed size) next bytes = (next ≡ fixed size) × (bytes ≡ [])
  ComesBehind (string prefix) next bytes = IsText prefix next × (bytes ≡ [])
  ComesBehind (array prefix element) next bytes =
      (IsListCount prefix next × (bytes ≡ []))
      ⊎ ((count : ℕ) × (values : List Value) × (length values < count)
      × Follows (IsCount prefix count) (Follows (EachSpells (Spells element) values) (ComesBehind element next)) bytes)
  ComesBehind (sequence fields) next bytes = ComesInFields fields next bytes

  pub ComesInFields : Fields → Field → List ℕ → Type 0
  ComesInFields no_fields next bytes = ⊥
  ComesInFields (field name form more) next bytes =
      ComesBehind form next bytes ⊎ ((value : Value) × Follows (Spells form value) (ComesInFields more next) bytes)

-- the bytes up to a place are the first fields of a spelling, and what is left is too short for the next one
pub record BreaksOffAt (form : Form) (bytes : List ℕ) (place : ℕ) : Type 0 where
  pub front : List ℕ
  pub left : List ℕ
  pub whole : bytes ≡ front ++ left
  pub before : place ≡ length front
  pub next : Field
  pub comes : ComesBehind form next front
  pub short : length left < room next left

-- the bytes up to a place are a spelling, and more are left
pub record GoesOnAt (form : Form) (bytes : List ℕ) (place : ℕ) : Type 0 where
  pub front : List ℕ
  pub left : List ℕ
  pub whole : bytes ≡ front ++ left
  pub before : place ≡ length front
  pub some : 0 < length left
  pub value : Value
  pub spelled : Spells form value front
