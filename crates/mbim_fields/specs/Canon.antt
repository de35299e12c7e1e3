-- The one encoding of values in a layout.
-- The data that pairs and offsets point at stands behind the fields, in their order, each filled up with zeros to a multiple of 4; where there is no data, offset and size are 0.
use Rattle.std.specs.Prelude.{ℕ, ◌+◌, ◌-◌, ◌*◌, ◌%◌, ◌^◌, nat_lt, ◌==◌, List, [], ◌∷◌, ◌++◌, length, replicate, Option, Some, None, option_map, option_and_then, if◌then◌else◌}
use Rattle.std.specs.Str.{all_scalars}
use Rattle.kit_bytes.specs.Numbers.{number_bytes}
use Rattle.kit_bytes.specs.Utf16.{utf16_bytes}
use Rattle.mbim_fields.specs.Layout.{Fixed, u32, u64, uuid, ipv4, ipv6, prefixed_ipv4, prefixed_ipv6, Item, in_place, text, binary, structure, Form, one, each, run, perhaps, Layout, no_fields, field}
use Rattle.mbim_fields.specs.Value.{Value, absent, Values, no_more, first, list_of, count_in, room, as_number, as_uuid, as_octets, as_text, as_elements, as_members}

-- ---- what has one size ----

-- a number in so many bytes, if it fits
abbrev pub number_in : ℕ → ℕ → Option (List ℕ)
number_in count n = if nat_lt n (2 ^ (8 * count)) then Some (number_bytes count n) else None

-- these bytes, if they are so many
abbrev pub octets_in : ℕ → List ℕ → Option (List ℕ)
octets_in count bytes = if length bytes == count then Some bytes else None

-- these bytes and then those, if there are any
abbrev pub append_to : List ℕ → Option (List ℕ) → Option (List ℕ)
append_to front back = option_map (λ bytes. front ++ bytes) back

-- the length of a prefix, and then an address of so many bytes
abbrev pub prefixed_in : ℕ → Values → Option (List ℕ)
prefixed_in count (first prefix (first address no_more)) =
    option_and_then (λ front. append_to front (option_and_then (octets_in count) (as_octets address))) (option_and_then (number_in 4) (as_number prefix))
prefixed_in count _ = None

abbrev pub fixed_bytes : Fixed → Value → Option (List ℕ)
fixed_bytes u32 value = option_and_then (number_in 4) (as_number value)
fixed_bytes u64 value = option_and_then (number_in 8) (as_number value)
fixed_bytes uuid value = option_and_then (octets_in 16) (as_uuid value)
fixed_bytes ipv4 value = option_and_then (octets_in 4) (as_octets value)
fixed_bytes ipv6 value = option_and_then (octets_in 16) (as_octets value)
fixed_bytes prefixed_ipv4 value = option_and_then (prefixed_in 4) (as_members value)
fixed_bytes prefixed_ipv6 value = option_and_then (prefixed_in 16) (as_members value)

-- one after another, behind those that are there
abbrev pub run_bytes : Fixed → List ℕ → List Value → Option (List ℕ)
run_bytes fixed front [] = Some front
run_bytes fixed front (value ∷ values) = option_and_then (λ bytes. run_bytes fixed (front ++ bytes) values) (fixed_bytes fixed value)

-- ---- what is laid out so far: the fields in place, and the data ----

pub record Laid : Type 0 where
  pub front : List ℕ
  pub back : List ℕ

abbrev pub nothing : Laid
nothing = record { front = []; back = [] }

-- the bytes of the structure, where all of it is laid out
abbrev pub bytes_of : Laid → List ℕ
bytes_of laid = laid.front ++ laid.back

-- with bytes in place
abbrev pub add : Laid → List ℕ → Laid
add laid bytes = record { front = laid.front ++ bytes; back = laid.back }

-- with data, filled up with zeros
abbrev pub add_data : Laid → List ℕ → Laid
add_data laid bytes = record { front = laid.front; back = laid.back ++ bytes ++ replicate ((4 - length bytes % 4) % 4) 0 }

-- with data, and in place the offset at which it stands, where all data begins at a place
abbrev pub point_at : ℕ → Laid → List ℕ → Option Laid
point_at begin laid [] = Some (add laid (number_bytes 4 0))
point_at begin laid (byte ∷ bytes) = option_map (λ offset. add_data (add laid offset) (byte ∷ bytes)) (number_in 4 (begin + length laid.back))

-- the same with a pair of offset and size
abbrev pub point : ℕ → Laid → List ℕ → Option Laid
point begin laid bytes = option_and_then (λ next. option_map (add next) (number_in 4 (length bytes))) (point_at begin laid bytes)

-- one after another in place
abbrev pub lay_each : (Laid → Value → Option Laid) → Laid → List Value → Option Laid
lay_each lay laid [] = Some laid
lay_each lay laid (value ∷ values) = option_and_then (λ next. lay_each lay next values) (lay laid value)

-- how many bytes the fields of values take in place, behind fields of these values
abbrev pub rooms : Layout → List Value → List Value → ℕ
rooms (field name form more) before (value ∷ values) = room form before + rooms more (before ++ value ∷ []) values
rooms layout before values = 0

-- the values of a list, if they are so many
abbrev pub counted_list : ℕ → Values → Option (List Value)
counted_list count values = if length (list_of values) == count then Some (list_of values) else None

abbrev pub lay_text : ℕ → Laid → List ℕ → Option Laid
lay_text begin laid chars = if all_scalars chars then point begin laid (utf16_bytes chars) else None

abbrev pub lay_run : Fixed → ℕ → ℕ → Laid → Value → Option Laid
lay_run fixed count begin laid value =
    option_and_then (λ values. option_and_then (point_at begin laid) (run_bytes fixed [] values)) (option_and_then (counted_list count) (as_elements value))

abbrev pub lay_perhaps : Fixed → ℕ → Laid → Value → Option Laid
lay_perhaps fixed begin laid absent = point_at begin laid []
lay_perhaps fixed begin laid value = option_and_then (point_at begin laid) (fixed_bytes fixed value)

abbrev mutual
  pub lay_item : Item → ℕ → Laid → Value → Option Laid
  lay_item (in_place fixed) begin laid value = option_map (add laid) (fixed_bytes fixed value)
  lay_item text begin laid value = option_and_then (lay_text begin laid) (as_text value)
  lay_item binary begin laid value = option_and_then (point begin laid) (as_octets value)
  lay_item (structure layout) begin laid value =
      option_and_then (λ values. option_and_then (λ inner. point begin laid (bytes_of inner)) (lay_fields layout (rooms layout [] (list_of values)) nothing [] (list_of values))) (as_members value)

  -- behind fields of these values
  pub lay_form : Form → ℕ → Laid → List Value → Value → Option Laid
  lay_form (one item) begin laid before value = lay_item item begin laid value
  lay_form (each place item) begin laid before value =
      option_and_then (λ values. lay_each (lay_item item begin) laid values) (option_and_then (counted_list (count_in before place)) (as_elements value))
  lay_form (run place fixed) begin laid before value = lay_run fixed (count_in before place) begin laid value
  lay_form (perhaps fixed) begin laid before value = lay_perhaps fixed begin laid value

  pub lay_fields : Layout → ℕ → Laid → List Value → List Value → Option Laid
  lay_fields no_fields begin laid before [] = Some laid
  lay_fields no_fields begin laid before (value ∷ values) = None
  lay_fields (field name form more) begin laid before [] = None
  lay_fields (field name form more) begin laid before (value ∷ values) =
      option_and_then (λ next. lay_fields more begin next (before ++ value ∷ []) values) (lay_form form begin laid before value)

-- the encoding of values, if they have the layout, and each offset and size fits 4 bytes
abbrev pub canon : Layout → List Value → Option (List ℕ)
canon layout values = option_map bytes_of (lay_fields layout (rooms layout [] values) nothing [] values)
