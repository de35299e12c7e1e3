-- Which values the bytes of a structure have in a layout.
-- Each field has its value in place, or where its pair or its offset points: inside the structure that holds it, counted from that structure's first byte.
-- Data may stand in any order, overlap, or leave bytes that no field points at.
use Rattle.std.specs.Prelude.{◌≡◌, ◌≢◌, ℕ, ◌+◌, ◌≤◌, ◌⊎◌, IsTrue, List, [], ◌∷◌, ◌++◌, length, slice_range}
use Rattle.kit_bytes.specs.Numbers.{number_at}
use Rattle.kit_bytes.specs.Utf16.{is_utf16, utf16_text}
use Rattle.mbim_fields.specs.Layout.{Fixed, size, Item, in_place, text, binary, structure, width, Form, one, each, run, perhaps, Layout, no_fields, field}
use Rattle.mbim_fields.specs.Value.{Value, octets, text_of, absent, elements, members, list_of, count_in, room}
use Rattle.mbim_fields.specs.Reading.{fixed_at}

-- In what follows whole is a structure, and at a place in it.

-- the value stands whole at a place
pub record IsAt (fixed : Fixed) (value : Value) (whole : List ℕ) (at : ℕ) : Type 0 where
  pub inside : at + size fixed ≤ length whole
  pub is : value ≡ fixed_at fixed whole at

-- the pair at a place points at data of which this holds; data of no bytes is inside, whatever the offset
pub record PointsAt (Holds : List ℕ → Type 0) (whole : List ℕ) (at : ℕ) : Type 0 where
  pub offset : ℕ
  pub size : ℕ
  pub offset_is : offset ≡ number_at whole at 4
  pub size_is : size ≡ number_at whole (at + 4) 4
  pub inside : (size ≡ 0) ⊎ (offset + size ≤ length whole)
  pub holds : Holds (slice_range whole offset (offset + size))

-- values of one width stand one after another from a place on
abbrev pub StandInRow : (Value → ℕ → Type 0) → ℕ → List Value → ℕ → Type 0
StandInRow Stands width [] at = Unit {0}
StandInRow Stands width (value ∷ values) at = Stands value at × StandInRow Stands width values (at + width)

abbrev mutual
  pub Stands : Item → List ℕ → Value → ℕ → Type 0
  Stands (in_place fixed) whole value at = IsAt fixed value whole at
  Stands text whole (text_of chars) at = PointsAt (λ bytes. IsTrue (is_utf16 bytes) × (chars ≡ utf16_text bytes)) whole at
  Stands binary whole (octets value) at = PointsAt (λ bytes. value ≡ bytes) whole at
  Stands (structure layout) whole (members values) at = PointsAt (λ bytes. FieldsStand layout bytes [] (list_of values) 0) whole at
  Stands item whole value at = ⊥

  -- behind fields of these values
  pub FormStands : Form → List ℕ → List Value → Value → ℕ → Type 0
  FormStands (one item) whole before value at = Stands item whole value at
  FormStands (each place item) whole before (elements values) at =
      (length (list_of values) ≡ count_in before place) × StandInRow (Stands item whole) (width item) (list_of values) at
  FormStands (run place fixed) whole before (elements values) at =
      (length (list_of values) ≡ count_in before place)
      × StandInRow (λ value there. IsAt fixed value whole there) (size fixed) (list_of values) (number_at whole at 4)
  FormStands (perhaps fixed) whole before value at =
      ((number_at whole at 4 ≡ 0) × (value ≡ absent)) ⊎ ((number_at whole at 4 ≢ 0) × IsAt fixed value whole (number_at whole at 4))
  FormStands form whole before value at = ⊥

  -- the fields from a place on, behind fields of these values
  pub FieldsStand : Layout → List ℕ → List Value → List Value → ℕ → Type 0
  FieldsStand no_fields whole before [] at = Unit {0}
  FieldsStand (field name form more) whole before (value ∷ values) at =
      (at + room form before ≤ length whole) × FormStands form whole before value at × FieldsStand more whole (before ++ value ∷ []) values (at + room form before)
  FieldsStand _ whole before values at = ⊥

-- a buffer has these values in a layout
abbrev pub Fields : Layout → List Value → List ℕ → Type 0
Fields layout values buffer = FieldsStand layout buffer [] values 0
