-- How many bytes the encoding of values has at most.
use Rattle.std.proofs.Common.{◌≡◌, ℕ, suc, ◌+◌, ◌-◌, ◌*◌, ◌%◌, ◌^◌, ◌≤◌, Bool, true, false, ◌==◌, nat_lt, if◌then◌else◌, List, [], ◌∷◌, ◌++◌, length, replicate, Option, Some, None, option_map, option_and_then, unwrap_or, refl, ap, ◌∙◌, arith, length-append}
use Rattle.std.specs.Str.{all_scalars}
use Rattle.std.proofs.lemmas.Bool.{eqb-true}
use Rattle.std.proofs.lemmas.List.{length-replicate}
use Rattle.kit_bytes.specs.Numbers.{number_bytes}
use Rattle.kit_bytes.specs.Utf16.{utf16_bytes}
use Rattle.mbim_fields.specs.Layout.{Fixed, size, Item, in_place, text, binary, structure, width, Form, one, each, run, perhaps, Layout, no_fields, field}
use Rattle.mbim_fields.specs.Value.{Value, octets, text_of, absent, elements, members, list_of, count_in, room}
use Rattle.mbim_fields.specs.Canon.{fixed_bytes, run_bytes, Laid, nothing, bytes_of, add, add_data, point_at, point, lay_each, rooms, lay_item, lay_form, lay_fields, canon}
use Rattle.mbim_fields.proofs.RoundTrip.{number_bytes-length, fixed-length, run-adds}

-- ---- how many bytes of data values point at, at most ----

abbrev pub most_each : (Value → ℕ) → List Value → ℕ
most_each most [] = 0
most_each most (value ∷ values) = most value + most_each most values

abbrev mutual
  pub most_item : Item → Value → ℕ
  most_item text (text_of chars) = length (utf16_bytes chars) + 3
  most_item binary (octets bytes) = length bytes + 3
  most_item (structure layout) (members values) = rooms layout [] (list_of values) + most_fields layout (list_of values) + 3
  most_item _ value = 0

  pub most_form : Form → Value → ℕ
  most_form (one item) value = most_item item value
  most_form (each place item) (elements values) = most_each (most_item item) (list_of values)
  most_form (run place fixed) (elements values) = size fixed * length (list_of values) + 3
  most_form (perhaps fixed) value = size fixed + 3
  most_form _ value = 0

  pub most_fields : Layout → List Value → ℕ
  most_fields (field name form more) (value ∷ values) = most_form form value + most_fields more values
  most_fields _ values = 0

-- ---- what is laid out, if it is ----

abbrev IsShort : Option Laid → (front back : ℕ) → Type 0
IsShort None front back = Unit {0}
IsShort (Some laid) front back = (length laid.front ≤ front) × (length laid.back ≤ back)

weaker : (lay : Option Laid) (front back front' back' : ℕ) → IsShort lay front back → front ≤ front' → back ≤ back' → IsShort lay front' back'
weaker None front back front' back' short more more' = tt
weaker (Some laid) front back front' back' short more more' = (omega (arith, short.0, more), omega (arith, short.1, more'))

by_next : (lay : Option Laid) (next : Laid → Option Laid) (front back front' back' : ℕ) → IsShort lay front back → ((laid : Laid) → length laid.front ≤ front → length laid.back ≤ back → IsShort (next laid) front' back') → IsShort (option_and_then next lay) front' back'
by_next None next front back front' back' short later = tt
by_next (Some laid) next front back front' back' short later = later laid short.0 short.1

add_short : (laid : Laid) (made : Option (List ℕ)) (count : ℕ) → ((bytes : List ℕ) → made ≡ Some bytes → length bytes ≡ count) → IsShort (option_map (add laid) made) (length laid.front + count) (length laid.back + 0)
add_short laid None count long = tt
add_short laid (Some bytes) count long = (omega (arith, length-append laid.front bytes, long bytes refl), omega arith)

padded : (back bytes : List ℕ) → length (back ++ bytes ++ replicate {A = ℕ} ((4 - length bytes % 4) % 4) 0) ≤ length back + (length bytes + 3)
padded back bytes =
    omega (
      arith,
      length-append (back ++ bytes) (replicate {A = ℕ} ((4 - length bytes % 4) % 4) 0),
      length-append back bytes,
      length-replicate {A = ℕ} ((4 - length bytes % 4) % 4) 0,
    )

point_at_short : (begin : ℕ) (laid : Laid) (bytes : List ℕ) → IsShort (point_at begin laid bytes) (length laid.front + 4) (length laid.back + (length bytes + 3))
point_at_short begin laid [] = (omega (arith, length-append laid.front (number_bytes 4 0)), omega arith)
point_at_short begin laid (byte ∷ bytes) = by (nat_lt (begin + length laid.back) (2 ^ 32))
  where
    offset : List ℕ
    offset = number_bytes 4 (begin + length laid.back)

    by : (fits : Bool) → IsShort (option_map (λ offset. add_data (add laid offset) (byte ∷ bytes)) (if fits then Some (number_bytes 4 (begin + length laid.back)) else None)) (length laid.front + 4) (length laid.back + (length (byte ∷ bytes) + 3))
    by true = (omega (arith, length-append laid.front (number_bytes 4 (begin + length laid.back)), number_bytes-length 4 (begin + length laid.back)), padded laid.back (byte ∷ bytes))
    by false = tt

point_short : (begin : ℕ) (laid : Laid) (bytes : List ℕ) → IsShort (point begin laid bytes) (length laid.front + 8) (length laid.back + (length bytes + 3))
point_short begin laid bytes =
    by_next (point_at begin laid bytes) _ (length laid.front + 4) (length laid.back + (length bytes + 3)) (length laid.front + 8) (length laid.back + (length bytes + 3)) (point_at_short begin laid bytes)
    (λ next front back. by next front back (nat_lt (length bytes) (2 ^ 32)))
  where
    by : (next : Laid) → length next.front ≤ length laid.front + 4 → length next.back ≤ length laid.back + (length bytes + 3) → (fits : Bool)
        → IsShort (option_map (add next) (if fits then Some (number_bytes 4 (length bytes)) else None)) (length laid.front + 8) (length laid.back + (length bytes + 3))
    by next front back true = (omega (arith, front, length-append next.front (number_bytes 4 (length bytes)), number_bytes-length 4 (length bytes)), back)
    by next front back false = tt

more_rooms : (n room : ℕ) → suc n * room ≡ room + n * room
more_rooms n room = grind arith

each_short : (lay : Laid → Value → Option Laid) (most : Value → ℕ) (room : ℕ) → ((laid : Laid) (value : Value) → IsShort (lay laid value) (length laid.front + room) (length laid.back + most value)) → (laid : Laid) (values : List Value)
    → IsShort (lay_each lay laid values) (length laid.front + length values * room) (length laid.back + most_each most values)
each_short lay most room lays laid [] = (omega arith, omega arith)
each_short lay most room lays laid (value ∷ values) =
    let longer : length (value ∷ values) * room ≡ room + length values * room = more_rooms (length values) room in
    by_next (lay laid value) (λ next. lay_each lay next values) _ _ _ _ (lays laid value)
    (λ next front back. weaker (lay_each lay next values) _ _ _ _ (each_short lay most room lays next values) (omega (arith, front, longer)) (omega (arith, back)))

-- a list of the count that is due
by_count : (values : List Value) (count : ℕ) (next : List Value → Option Laid) (front back : ℕ) → (length values ≡ count → IsShort (next values) front back)
    → IsShort (option_and_then next (if length values == count then Some values else None)) front back
by_count values count next front back short = by (length values == count) refl
  where
    by : (same : Bool) → (length values == count) ≡ same → IsShort (option_and_then next (if same then Some values else None)) front back
    by true is = short (eqb-true (length values) count is)
    by false is = tt

by_made : (laid : Laid) (begin : ℕ) (made : Option (List ℕ)) (count : ℕ) → ((bytes : List ℕ) → made ≡ Some bytes → length bytes ≡ count) → IsShort (option_and_then (point_at begin laid) made) (length laid.front + 4) (length laid.back + (count + 3))
by_made laid begin None count long = tt
by_made laid begin (Some bytes) count long = weaker (point_at begin laid bytes) _ _ _ _ (point_at_short begin laid bytes) (omega arith) (let n = long bytes refl in omega (arith, n))

run_long : (fixed : Fixed) (values : List Value) (bytes : List ℕ) → run_bytes fixed [] values ≡ Some bytes → length bytes ≡ size fixed * length values
run_long fixed values bytes is =
    let adds = run-adds fixed [] bytes values is in
    let turned : length values * size fixed ≡ size fixed * length values = grind arith in
    ap length adds.all_is ∙ adds.size_is ∙ turned

text_short : (begin : ℕ) (laid : Laid) (chars : List ℕ) (scalars : Bool) → IsShort (if scalars then point begin laid (utf16_bytes chars) else None) (length laid.front + 8) (length laid.back + (length (utf16_bytes chars) + 3))
text_short begin laid chars true = point_short begin laid (utf16_bytes chars)
text_short begin laid chars false = tt

mutual
  item_short : (item : Item) (begin : ℕ) (laid : Laid) (value : Value) → IsShort (lay_item item begin laid value) (length laid.front + width item) (length laid.back + most_item item value)
  item_short (in_place fixed) begin laid value = add_short laid (fixed_bytes fixed value) (size fixed) (fixed-length fixed value)
  item_short text begin laid (text_of chars) = text_short begin laid chars (all_scalars chars)
  item_short binary begin laid (octets bytes) = point_short begin laid bytes
  item_short (structure layout) begin laid (members values) =
      by_next (lay_fields layout (rooms layout [] (list_of values)) nothing [] (list_of values)) (λ inner. point begin laid (bytes_of inner)) _ _ _ _ (fields_short layout (rooms layout [] (list_of values)) nothing [] (list_of values))
      (λ inner front back. weaker (point begin laid (bytes_of inner)) _ _ _ _ (point_short begin laid (bytes_of inner)) (omega arith) (omega (arith, front, back, length-append inner.front inner.back)))
  item_short _ begin laid value = tt

  form_short : (form : Form) (begin : ℕ) (laid : Laid) (before : List Value) (value : Value) → IsShort (lay_form form begin laid before value) (length laid.front + room form before) (length laid.back + most_form form value)
  form_short (one item) begin laid before value = item_short item begin laid value
  form_short (each place item) begin laid before (elements values) =
      by_count (list_of values) (count_in before place) (λ listed. lay_each (lay_item item begin) laid listed) _ _
      (λ is. weaker (lay_each (lay_item item begin) laid (list_of values)) _ _ _ _ (each_short (lay_item item begin) (most_item item) (width item) (item_short item begin) laid (list_of values))
      (let same = ap (λ (n : ℕ). n * width item) is in omega (arith, same)) (omega arith))
  form_short (run place fixed) begin laid before (elements values) =
      by_count (list_of values) (count_in before place) (λ listed. option_and_then (point_at begin laid) (run_bytes fixed [] listed)) _ _
      (λ is. by_made laid begin (run_bytes fixed [] (list_of values)) (size fixed * length (list_of values)) (run_long fixed (list_of values)))
  form_short (perhaps fixed) begin laid before absent = (omega (arith, length-append laid.front (number_bytes 4 0)), omega arith)
  form_short (perhaps fixed) begin laid before value = by_made laid begin (fixed_bytes fixed value) (size fixed) (fixed-length fixed value)
  form_short _ begin laid before value = tt

  fields_short : (layout : Layout) (begin : ℕ) (laid : Laid) (before values : List Value) → IsShort (lay_fields layout begin laid before values) (length laid.front + rooms layout before values) (length laid.back + most_fields layout values)
  fields_short no_fields begin laid before [] = (omega arith, omega arith)
  fields_short no_fields begin laid before (value ∷ values) = tt
  fields_short (field name form more) begin laid before [] = tt
  fields_short (field name form more) begin laid before (value ∷ values) =
      by_next (lay_form form begin laid before value) (λ next. lay_fields more begin next (before ++ value ∷ []) values) _ _ _ _ (form_short form begin laid before value)
      (λ next front back. weaker (lay_fields more begin next (before ++ value ∷ []) values) _ _ _ _ (fields_short more begin next (before ++ value ∷ []) values) (omega (arith, front)) (omega (arith, back)))

-- the encoding of values, or none
pub encoded_short : (layout : Layout) (values : List Value) → length (unwrap_or (canon layout values) []) ≤ rooms layout [] values + most_fields layout values
encoded_short layout values = by (lay_fields layout (rooms layout [] values) nothing [] values) (fields_short layout (rooms layout [] values) nothing [] values)
  where
    by : (lay : Option Laid) → IsShort lay (0 + rooms layout [] values) (0 + most_fields layout values) → length (unwrap_or (option_map bytes_of lay) []) ≤ rooms layout [] values + most_fields layout values
    by None short = omega arith
    by (Some laid) short = omega (arith, short.0, short.1, length-append laid.front laid.back)
