-- What the bytes of a structure say, or where its first fault is.
-- Fields are read in order, and what a field points at is read where the field stands.
use Rattle.std.specs.Prelude.{ℕ, zero, suc, ◌+◌, ◌*◌, nat_le, ◌==◌, List, [], ◌∷◌, ◌++◌, length, slice_range, if◌then◌else◌, Result, Ok, Err}
use Rattle.kit_bytes.specs.Numbers.{number_at}
use Rattle.kit_bytes.specs.Utf16.{is_utf16, utf16_text}
use Rattle.mbim_fields.specs.Layout.{Fixed, u32, u64, uuid, ipv4, ipv6, prefixed_ipv4, prefixed_ipv6, size, Item, in_place, text, binary, structure, width, Form, one, each, run, perhaps, Layout, no_fields, field}
use Rattle.mbim_fields.specs.Value.{Value, number, uuid_of, octets, text_of, absent, elements, members, no_more, first, values_of, count_in, room}
use Rattle.mbim_fields.specs.declared.fault.FieldFault.{FieldFault}
use Rattle.mbim_fields.specs.declared.fault.FieldFault.TheVariants.{OutOfRange, Lone}

abbrev pub Read : Type 0 → Type 0
Read A = Result A FieldFault

abbrev pub and_then : {A B : Type 0} → Read A → (A → Read B) → Read B
and_then (Err fault) next = Err fault
and_then (Ok value) next = next value

-- In what follows whole is a structure, base its place in the buffer, and at a place in it.

-- what is read, if it ends within the structure, and else a fault at a place of the buffer
abbrev pub within : {A : Type 0} → List ℕ → ℕ → ℕ → Read A → Read A
within whole end place read = if nat_le end (length whole) then read else Err (OutOfRange place)

-- ---- what has one size ----

abbrev pub bytes_at : List ℕ → ℕ → ℕ → Value
bytes_at whole at count = octets (slice_range whole at (at + count))

-- the length of a prefix, and an address of so many bytes
abbrev pub prefixed_at : List ℕ → ℕ → ℕ → Value
prefixed_at whole at count = members (first (number (number_at whole at 4)) (first (bytes_at whole (at + 4) count) no_more))

abbrev pub fixed_at : Fixed → List ℕ → ℕ → Value
fixed_at u32 whole at = number (number_at whole at 4)
fixed_at u64 whole at = number (number_at whole at 8)
fixed_at uuid whole at = uuid_of (slice_range whole at (at + 16))
fixed_at ipv4 whole at = bytes_at whole at 4
fixed_at ipv6 whole at = bytes_at whole at 16
fixed_at prefixed_ipv4 whole at = prefixed_at whole at 4
fixed_at prefixed_ipv6 whole at = prefixed_at whole at 16

-- so many, one after another
abbrev pub run_at : Fixed → ℕ → List ℕ → ℕ → List Value
run_at fixed zero whole at = []
run_at fixed (suc count) whole at = fixed_at fixed whole at ∷ run_at fixed count whole (at + size fixed)

-- ---- what a pair points at ----

-- bytes, and their own place in the buffer
pub record Part : Type 0 where
  pub bytes : List ℕ
  pub place : ℕ

-- the data of the pair at a place; data of no bytes is there, whatever the offset, and counts as standing where its pair stands
abbrev pub part_at : List ℕ → ℕ → ℕ → Read Part
part_at whole base at =
    if number_at whole (at + 4) 4 == 0 then Ok (record { bytes = []; place = base + at })
    else within whole (number_at whole at 4 + number_at whole (at + 4) 4) (base + at)
    (Ok (record { bytes = slice_range whole (number_at whole at 4) (number_at whole at 4 + number_at whole (at + 4) 4); place = base + number_at whole at 4 }))

-- so many items of a width, one after another, behind those that were read
abbrev pub read_each : (ℕ → Read Value) → ℕ → ℕ → ℕ → List Value → Read (List Value)
read_each read width zero at done = Ok done
read_each read width (suc count) at done = and_then (read at) (λ value. read_each read width count (at + width) (done ++ value ∷ []))

-- the text that bytes spell, and else a fault at a place of the buffer
abbrev pub text_in : List ℕ → ℕ → Read Value
text_in bytes place = if is_utf16 bytes then Ok (text_of (utf16_text bytes)) else Err (Lone place)

-- ---- what a single offset points at ----

-- a list of no elements is there whatever the offset
abbrev pub read_run : Fixed → ℕ → List ℕ → ℕ → ℕ → Read Value
read_run fixed count whole base at =
    if count == 0 then Ok (elements no_more)
    else within whole (number_at whole at 4 + count * size fixed) (base + at) (Ok (elements (values_of (run_at fixed count whole (number_at whole at 4)))))

abbrev pub read_perhaps : Fixed → List ℕ → ℕ → ℕ → Read Value
read_perhaps fixed whole base at =
    if number_at whole at 4 == 0 then Ok absent
    else within whole (number_at whole at 4 + size fixed) (base + at) (Ok (fixed_at fixed whole (number_at whole at 4)))

-- ---- items, forms and fields, where they are known to end within the structure ----

abbrev mutual
  pub read_item : Item → List ℕ → ℕ → ℕ → Read Value
  read_item (in_place fixed) whole base at = Ok (fixed_at fixed whole at)
  read_item text whole base at = and_then (part_at whole base at) (λ part. text_in part.bytes (base + at))
  read_item binary whole base at = and_then (part_at whole base at) (λ part. Ok (octets part.bytes))
  read_item (structure layout) whole base at =
      and_then (part_at whole base at) (λ part. and_then (read_fields layout part.bytes part.place 0 []) (λ values. Ok (members (values_of values))))

  -- behind fields of these values
  pub read_form : Form → List ℕ → ℕ → ℕ → List Value → Read Value
  read_form (one item) whole base at before = read_item item whole base at
  read_form (each place item) whole base at before =
      and_then (read_each (read_item item whole base) (width item) (count_in before place) at []) (λ values. Ok (elements (values_of values)))
  read_form (run place fixed) whole base at before = read_run fixed (count_in before place) whole base at
  read_form (perhaps fixed) whole base at before = read_perhaps fixed whole base at

  -- the values of the fields that were read, and of those from a place on
  pub read_fields : Layout → List ℕ → ℕ → ℕ → List Value → Read (List Value)
  read_fields no_fields whole base at before = Ok before
  read_fields (field name form more) whole base at before =
      within whole (at + room form before) (base + at)
      (and_then (read_form form whole base at before) (λ value. read_fields more whole base (at + room form before) (before ++ value ∷ [])))

-- what a buffer says in a layout
abbrev pub read : Layout → List ℕ → Read (List Value)
read layout buffer = read_fields layout buffer 0 0 []
