-- How many bytes of memory the values of a buffer count as.
-- A value counts 32 bytes wherever it stands, and beside them the bytes of an address, those of a text in UTF-16, or those that a pair points at.
use Rattle.std.specs.Prelude.{ℕ, zero, suc, ◌+◌, ◌*◌, nat_le, ◌==◌, List, [], ◌∷◌, ◌++◌, length, if◌then◌else◌, Ok, Err}
use Rattle.kit_bytes.specs.Numbers.{number_at}
use Rattle.kit_bytes.specs.Utf16.{utf16_bytes}
use Rattle.mbim_fields.specs.Layout.{Fixed, u32, u64, uuid, ipv4, ipv6, prefixed_ipv4, prefixed_ipv6, Item, in_place, text, binary, structure, width, Form, one, each, run, perhaps, Layout, no_fields, field}
use Rattle.mbim_fields.specs.Value.{Value, number, uuid_of, octets, text_of, absent, elements, members, Values, no_more, first, count_in, room}
use Rattle.mbim_fields.specs.Reading.{Read, part_at, read_run, read_perhaps, read_item, read_form}

-- how many the values of one buffer count as at most
abbrev pub footprint_limit : ℕ
footprint_limit = 16777216

-- ---- of values ----

abbrev mutual
  pub value_footprint : Value → ℕ
  value_footprint (number n) = 32
  value_footprint (uuid_of bytes) = 32
  value_footprint (octets bytes) = 32 + length bytes
  value_footprint (text_of chars) = 32 + length (utf16_bytes chars)
  value_footprint absent = 32
  value_footprint (elements values) = 32 + values_footprint values
  value_footprint (members values) = 32 + values_footprint values

  pub values_footprint : Values → ℕ
  values_footprint no_more = 0
  values_footprint (first value more) = value_footprint value + values_footprint more

-- ---- of what is read of a buffer, up to its first fault ----
-- In what follows whole is a structure, base its place in the buffer, and at a place in it.

-- of what always takes the same number of bytes; a prefix and an address behind it are values of their own
abbrev pub fixed_footprint : Fixed → ℕ
fixed_footprint u32 = 32
fixed_footprint u64 = 32
fixed_footprint uuid = 32
fixed_footprint ipv4 = 36
fixed_footprint ipv6 = 48
fixed_footprint prefixed_ipv4 = 100
fixed_footprint prefixed_ipv6 = 112

-- of what comes behind a reading, which is nothing where it has a fault
abbrev pub behind : {A : Type 0} → Read A → (A → ℕ) → ℕ
behind (Err fault) more = 0
behind (Ok value) more = more value

-- of so many items of a width, one after another
abbrev pub each_footprint : (ℕ → Read Value) → (ℕ → ℕ) → (width count at : ℕ) → ℕ
each_footprint read item width zero at = 0
each_footprint read item width (suc count) at = item at + behind (read at) (λ value. each_footprint read item width count (at + width))

abbrev pub run_footprint : Fixed → (count : ℕ) → List ℕ → (base at : ℕ) → ℕ
run_footprint fixed count whole base at = behind (read_run fixed count whole base at) (λ value. 32 + count * fixed_footprint fixed)

abbrev pub perhaps_footprint : Fixed → List ℕ → (base at : ℕ) → ℕ
perhaps_footprint fixed whole base at = behind (read_perhaps fixed whole base at) (λ value. if number_at whole at 4 == 0 then 32 else fixed_footprint fixed)

abbrev mutual
  pub item_footprint : Item → List ℕ → (base at : ℕ) → ℕ
  item_footprint (in_place fixed) whole base at = fixed_footprint fixed
  item_footprint text whole base at = behind (part_at whole base at) (λ part. 32 + length part.bytes)
  item_footprint binary whole base at = behind (part_at whole base at) (λ part. 32 + length part.bytes)
  item_footprint (structure layout) whole base at = behind (part_at whole base at) (λ part. 32 + fields_footprint layout part.bytes part.place 0 [])

  -- behind fields of these values
  pub form_footprint : Form → List ℕ → (base at : ℕ) → List Value → ℕ
  form_footprint (one item) whole base at before = item_footprint item whole base at
  form_footprint (each place item) whole base at before = 32 + each_footprint (read_item item whole base) (item_footprint item whole base) (width item) (count_in before place) at
  form_footprint (run place fixed) whole base at before = run_footprint fixed (count_in before place) whole base at
  form_footprint (perhaps fixed) whole base at before = perhaps_footprint fixed whole base at

  -- of the fields from a place on
  pub fields_footprint : Layout → List ℕ → (base at : ℕ) → List Value → ℕ
  fields_footprint no_fields whole base at before = 0
  fields_footprint (field name form more) whole base at before =
      if nat_le (at + room form before) (length whole)
      then form_footprint form whole base at before + behind (read_form form whole base at before) (λ value. fields_footprint more whole base (at + room form before) (before ++ value ∷ []))
      else 0

-- of what a buffer says in a layout
abbrev pub footprint : Layout → List ℕ → ℕ
footprint layout buffer = fields_footprint layout buffer 0 0 []
