-- Values that have a layout have an encoding, as long as its places fit 4 bytes.
use Rattle.std.proofs.Common.{◌≡◌, ℕ, zero, suc, ◌+◌, ◌-◌, ◌*◌, ◌%◌, ◌^◌, ◌<◌, ◌≤◌, IsTrue, List, [], ◌∷◌, ◌++◌, length, replicate, Option, Some, None, IsSome, option_map, refl, ap, arith, length-append}
use Rattle.std.proofs.lemmas.List.{length-replicate}
use Rattle.std.specs.Str.{all_scalars}
use Rattle.kit_bytes.specs.Numbers.{number_bytes}
use Rattle.kit_bytes.specs.Utf16.{utf16_bytes}
use Rattle.mbim_fields.specs.Layout.{Fixed, u32, u64, uuid, ipv4, ipv6, prefixed_ipv4, prefixed_ipv6, size, Item, in_place, text, binary, structure, width, Form, one, each, run, perhaps, Layout, no_fields, field}
use Rattle.mbim_fields.specs.Value.{Value, number, uuid_of, octets, text_of, absent, elements, members, list_of, count_in, room}
use Rattle.mbim_fields.specs.Canon.{fixed_bytes, run_bytes, Laid, nothing, bytes_of, add, add_data, point_at, point, lay_each, lay_run, rooms, lay_item, lay_form, lay_fields, canon}
use Rattle.mbim_fields.proofs.RoundTrip.{number_bytes-length, number_in-is}
use Rattle.mbim_fields.proofs.Writings.{lay_text-is, counted_list-is}

-- ---- values that have a layout ----

pub record HasBytes (fixed : Fixed) (value : Value) : Type 0 where
  pub bytes : List ℕ
  pub is : fixed_bytes fixed value ≡ Some bytes
  pub long : length bytes ≡ size fixed

abbrev pub EachFits : (Value → Type 0) → List Value → Type 0
EachFits Fits [] = Unit {0}
EachFits Fits (value ∷ values) = Fits value × EachFits Fits values

abbrev mutual
  pub ItemFits : Item → Value → Type 0
  ItemFits (in_place fixed) value = HasBytes fixed value
  ItemFits text (text_of chars) = IsTrue (all_scalars chars)
  ItemFits binary (octets bytes) = Unit {0}
  ItemFits (structure layout) (members values) = FieldsFit layout [] (list_of values)
  ItemFits _ value = ⊥

  -- behind fields of these values
  pub FormFits : Form → List Value → Value → Type 0
  FormFits (one item) before value = ItemFits item value
  FormFits (each place item) before (elements values) = (length (list_of values) ≡ count_in before place) × EachFits (ItemFits item) (list_of values)
  FormFits (run place fixed) before (elements values) = (length (list_of values) ≡ count_in before place) × EachFits (HasBytes fixed) (list_of values)
  FormFits (perhaps fixed) before absent = Unit {0}
  FormFits (perhaps fixed) before (octets bytes) = HasBytes fixed (octets bytes)
  FormFits _ before value = ⊥

  pub FieldsFit : Layout → List Value → List Value → Type 0
  FieldsFit no_fields before [] = Unit {0}
  FieldsFit (field name form more) before (value ∷ values) = FormFits form before value × FieldsFit more (before ++ value ∷ []) values
  FieldsFit _ before values = ⊥

-- ---- how many bytes of data they point at, at most ----

abbrev pub data_each : (Value → ℕ) → List Value → ℕ
data_each weight [] = 0
data_each weight (value ∷ values) = weight value + data_each weight values

abbrev mutual
  pub data_item : Item → Value → ℕ
  data_item text (text_of chars) = length (utf16_bytes chars) + 3
  data_item binary (octets bytes) = length bytes + 3
  data_item (structure layout) (members values) = rooms layout [] (list_of values) + data_fields layout (list_of values) + 3
  data_item _ value = 0

  pub data_form : Form → Value → ℕ
  data_form (one item) value = data_item item value
  data_form (each place item) (elements values) = data_each (data_item item) (list_of values)
  data_form (run place fixed) (elements values) = size fixed * length (list_of values) + 3
  data_form (perhaps fixed) (octets bytes) = size fixed + 3
  data_form _ value = 0

  pub data_fields : Layout → List Value → ℕ
  data_fields (field name form more) (value ∷ values) = data_form form value + data_fields more values
  data_fields _ values = 0

-- ---- what is laid out ----

-- something is, with so many bytes in place, and at most so many of data
pub record LaysWithin (lay : Option Laid) (front back : ℕ) : Type 0 where
  pub laid : Laid
  pub is : lay ≡ Some laid
  pub front_is : length laid.front ≡ front
  pub back_is : length laid.back ≤ back

add-within : (laid : Laid) (bytes : List ℕ) (lay : Option Laid) (room : ℕ) → lay ≡ Some (add laid bytes) → length bytes ≡ room → LaysWithin lay (length laid.front + room) (length laid.back + 0)
add-within laid bytes lay room is count = record { laid = add laid bytes; is = is; front_is = omega (arith, length-append laid.front bytes, count); back_is = omega arith }

padded : (back bytes : List ℕ) → length (back ++ bytes ++ replicate {A = ℕ} ((4 - length bytes % 4) % 4) 0) ≤ length back + (length bytes + 3)
padded back bytes =
    omega (
      arith,
      length-append (back ++ bytes) (replicate {A = ℕ} ((4 - length bytes % 4) % 4) 0),
      length-append back bytes,
      length-replicate {A = ℕ} ((4 - length bytes % 4) % 4) 0,
    )

point_at-within : (begin : ℕ) (laid : Laid) (bytes : List ℕ) → begin + length laid.back + (length bytes + 3) < 2 ^ 32 → LaysWithin (point_at begin laid bytes) (length laid.front + 4) (length laid.back + (length bytes + 3))
point_at-within begin laid [] small =
    record { laid = add laid (number_bytes 4 0); is = refl; front_is = omega (arith, length-append laid.front (number_bytes 4 0)); back_is = omega arith }
point_at-within begin laid (byte ∷ bytes) small =
    let offset = number_bytes 4 (begin + length laid.back) in
    record {
      laid = add_data (add laid offset) (byte ∷ bytes);
      is = rw (number_in-is 4 (begin + length laid.back) (omega (arith, small))) refl;
      front_is = omega (arith, length-append laid.front offset, number_bytes-length 4 (begin + length laid.back));
      back_is = padded laid.back (byte ∷ bytes);
    }

point-within : (begin : ℕ) (laid : Laid) (bytes : List ℕ) → begin + length laid.back + (length bytes + 3) < 2 ^ 32 → LaysWithin (point begin laid bytes) (length laid.front + 8) (length laid.back + (length bytes + 3))
point-within begin laid bytes small =
    let at = point_at-within begin laid bytes small in
    let count = number_bytes 4 (length bytes) in
    record {
      laid = add at.laid count;
      is = rw (at.is, number_in-is 4 (length bytes) (omega (arith, small))) refl;
      front_is = omega (arith, at.front_is, length-append at.laid.front count, number_bytes-length 4 (length bytes));
      back_is = at.back_is;
    }

more-rooms : (n room : ℕ) → suc n * room ≡ room + n * room
more-rooms n room = grind arith

each-within : (lay : Laid → Value → Option Laid) (Fits : Value → Type 0) (weight : Value → ℕ) (room begin : ℕ)
    → ((laid : Laid) (value : Value) → Fits value → begin + length laid.back + weight value < 2 ^ 32 → LaysWithin (lay laid value) (length laid.front + room) (length laid.back + weight value)) → (laid : Laid) (values : List Value)
    → EachFits Fits values → begin + length laid.back + data_each weight values < 2 ^ 32 → LaysWithin (lay_each lay laid values) (length laid.front + length values * room) (length laid.back + data_each weight values)
each-within lay Fits weight room begin lays laid [] fit small = record { laid = laid; is = refl; front_is = omega arith; back_is = omega arith }
each-within lay Fits weight room begin lays laid (value ∷ values) fit small =
    let here = lays laid value fit.0 (omega (arith, small)) in
    let rest = each-within lay Fits weight room begin lays here.laid values fit.1 (omega (arith, small, here.back_is)) in
    let longer : length (value ∷ values) * room ≡ room + length values * room = more-rooms (length values) room in
    record {
      laid = rest.laid;
      is = rw here.is rest.is;
      front_is = omega (arith, here.front_is, rest.front_is, longer);
      back_is = omega (arith, here.back_is, rest.back_is);
    }

pub record RunHas (made : Option (List ℕ)) (count : ℕ) : Type 0 where
  pub bytes : List ℕ
  pub is : made ≡ Some bytes
  pub long : length bytes ≡ count

zero-times : (n : ℕ) → n * 0 ≡ 0
zero-times n = grind arith

more-times : (n k : ℕ) → n * suc k ≡ n + n * k
more-times n k = grind arith

run-has : (fixed : Fixed) (front : List ℕ) (values : List Value) → EachFits (HasBytes fixed) values → RunHas (run_bytes fixed front values) (length front + size fixed * length values)
run-has fixed front [] fit = record { bytes = front; is = refl; long = omega (arith, zero-times (size fixed)) }
run-has fixed front (value ∷ values) fit =
    let rest = run-has fixed (front ++ fit.0.bytes) values fit.1 in
    let longer : size fixed * length (value ∷ values) ≡ size fixed + size fixed * length values = more-times (size fixed) (length values) in
    record { bytes = rest.bytes; is = rw fit.0.is rest.is; long = omega (arith, rest.long, length-append front fit.0.bytes, fit.0.long, longer) }

mutual
  item-within : (item : Item) (begin : ℕ) (laid : Laid) (value : Value) → ItemFits item value → begin + length laid.back + data_item item value < 2 ^ 32
      → LaysWithin (lay_item item begin laid value) (length laid.front + width item) (length laid.back + data_item item value)
  item-within (in_place fixed) begin laid value fits small = add-within laid fits.bytes _ (size fixed) (rw fits.is refl) fits.long
  item-within text begin laid (text_of chars) fits small = rw (lay_text-is begin laid chars fits) (point-within begin laid (utf16_bytes chars) small)
  item-within binary begin laid (octets bytes) fits small = point-within begin laid bytes small
  item-within (structure layout) begin laid (members values) fits small =
      let inner = fields-within layout (rooms layout [] (list_of values)) nothing [] (list_of values) fits (omega (arith, small)) in
      let long = length-append inner.laid.front inner.laid.back in
      let outer = point-within begin laid (bytes_of inner.laid) (omega (arith, small, long, inner.front_is, inner.back_is)) in
      record { laid = outer.laid; is = rw inner.is outer.is; front_is = outer.front_is; back_is = omega (arith, outer.back_is, long, inner.front_is, inner.back_is) }
  item-within _ begin laid value fits small = absurd fits

  form-within : (form : Form) (begin : ℕ) (laid : Laid) (before : List Value) (value : Value) → FormFits form before value → begin + length laid.back + data_form form value < 2 ^ 32
      → LaysWithin (lay_form form begin laid before value) (length laid.front + room form before) (length laid.back + data_form form value)
  form-within (one item) begin laid before value fits small = item-within item begin laid value fits small
  form-within (each place item) begin laid before (elements values) fits small =
      rw (counted_list-is (count_in before place) values fits.0, ← fits.0) (each-within (lay_item item begin) (ItemFits item) (data_item item) (width item) begin (item-within item begin) laid (list_of values) fits.1 small)
  form-within (run place fixed) begin laid before (elements values) fits small =
      let has = run-has fixed [] (list_of values) fits.1 in
      let at = point_at-within begin laid has.bytes (omega (arith, small, has.long)) in
      record { laid = at.laid; is = rw (counted_list-is (count_in before place) values fits.0, has.is) at.is; front_is = at.front_is; back_is = omega (arith, at.back_is, has.long) }
  form-within (perhaps fixed) begin laid before absent fits small = add-within laid (number_bytes 4 0) _ 4 refl refl
  form-within (perhaps fixed) begin laid before (octets bytes) fits small =
      let at = point_at-within begin laid fits.bytes (omega (arith, small, fits.long)) in
      record { laid = at.laid; is = rw fits.is at.is; front_is = at.front_is; back_is = omega (arith, at.back_is, fits.long) }
  form-within _ begin laid before value fits small = absurd fits

  fields-within : (layout : Layout) (begin : ℕ) (laid : Laid) (before values : List Value) → FieldsFit layout before values → begin + length laid.back + data_fields layout values < 2 ^ 32
      → LaysWithin (lay_fields layout begin laid before values) (length laid.front + rooms layout before values) (length laid.back + data_fields layout values)
  fields-within no_fields begin laid before [] fit small = record { laid = laid; is = refl; front_is = omega arith; back_is = omega arith }
  fields-within no_fields begin laid before (value ∷ values) fit small = absurd fit
  fields-within (field name form more) begin laid before [] fit small = absurd fit
  fields-within (field name form more) begin laid before (value ∷ values) fit small =
      let here = form-within form begin laid before value fit.0 (omega (arith, small)) in
      let rest = fields-within more begin here.laid (before ++ value ∷ []) values fit.1 (omega (arith, small, here.back_is)) in
      record {
        laid = rest.laid;
        is = rw here.is rest.is;
        front_is = omega (arith, here.front_is, rest.front_is);
        back_is = omega (arith, here.back_is, rest.back_is);
      }

pub encodes : (layout : Layout) (values : List Value) → FieldsFit layout [] values → rooms layout [] values + data_fields layout values < 2 ^ 32 → IsSome (canon layout values)
encodes layout values fit small =
    let laid = fields-within layout (rooms layout [] values) nothing [] values fit (omega (arith, small)) in
    rw laid.is refl
