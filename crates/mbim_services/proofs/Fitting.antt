-- Values that have an encoding: numbers that fit 4 bytes, and texts and bytes that aren't long.
use Rattle.std.proofs.Common.{◌≡◌, ℕ, ◌+◌, ◌-◌, ◌*◌, ◌%◌, ◌^◌, ◌<◌, ◌≤◌, IsTrue, List, [], ◌∷◌, ◌++◌, length, replicate, Option, Some, option_map, refl, ap, arith, length-append}
use Rattle.std.proofs.lemmas.List.{length-replicate}
use Rattle.std.specs.Str.{all_scalars}
use Rattle.kit_bytes.specs.Utf16.{utf16_bytes}
use Rattle.mbim_fields.specs.Layout.{u32, uuid, Item, in_place, text, binary, Form, one, run, perhaps, Layout, no_fields, field}
use Rattle.mbim_fields.specs.Value.{Value, number, uuid_of, octets, text_of, absent, elements, no_more, count_in, room}
use Rattle.kit_bytes.specs.Numbers.{number_bytes}
use Rattle.mbim_fields.specs.Canon.{Laid, nothing, bytes_of, add, add_data, point, lay_form, lay_fields, rooms, canon}
use Rattle.mbim_fields.proofs.RoundTrip.{number_bytes-length, number_in-is, octets_in-is}
use Rattle.mbim_fields.proofs.Writings.{lay_text-is}

-- ---- what fits ----

-- an item that points at data has at most so many words of 4 bytes of it
abbrev pub ItemFits : (words : ℕ) → Item → Value → Type 0
ItemFits words (in_place u32) (number n) = n < 2 ^ 32
ItemFits words (in_place uuid) (uuid_of bytes) = length bytes ≡ 16
ItemFits words text (text_of chars) = IsTrue (all_scalars chars) × (length (utf16_bytes chars) ≤ 4 * words)
ItemFits words binary (octets bytes) = length bytes ≤ 4 * words
ItemFits words _ value = ⊥

abbrev pub FormFits : (words : ℕ) → Form → List Value → Value → Type 0
FormFits words (one item) before value = ItemFits words item value
FormFits words (run place fixed) before (elements no_more) = count_in before place ≡ 0
FormFits words (perhaps fixed) before absent = Unit {0}
FormFits words _ before value = ⊥

abbrev pub FieldsFit : (words : ℕ) → Layout → List Value → List Value → Type 0
FieldsFit words no_fields before [] = Unit {0}
FieldsFit words (field name form more) before (value ∷ values) = FormFits words form before value × FieldsFit words more (before ++ value ∷ []) values
FieldsFit words _ before values = ⊥

-- how many bytes of data a field has at most
abbrev pub data_of : (words : ℕ) → Form → ℕ
data_of words (one text) = 4 * words
data_of words (one binary) = 4 * words
data_of words _ = 0

abbrev pub all_data : (words : ℕ) → Layout → ℕ
all_data words no_fields = 0
all_data words (field name form more) = data_of words form + all_data words more

-- ---- what is laid out ----

-- something is, of at most so many bytes in place and so many of data
pub record LaysWithin (lay : Option Laid) (front back : ℕ) : Type 0 where
  pub laid : Laid
  pub is : lay ≡ Some laid
  pub front_is : length laid.front ≤ front
  pub back_is : length laid.back ≤ back

add-within : (laid : Laid) (bytes : List ℕ) (lay : Option Laid) (room : ℕ) → lay ≡ Some (add laid bytes) → length bytes ≡ room → LaysWithin lay (length laid.front + room) (length laid.back + 0)
add-within laid bytes lay room is count = record { laid = add laid bytes; is = is; front_is = omega (arith, length-append laid.front bytes, count); back_is = omega arith }

point-within : (words begin : ℕ) (laid : Laid) (bytes : List ℕ) → length bytes ≤ 4 * words → begin + length laid.back + 4 * words < 2 ^ 32
    → LaysWithin (point begin laid bytes) (length laid.front + 8) (length laid.back + 4 * words)
point-within words begin laid [] fits small =
    record {
      laid = add (add laid (number_bytes 4 0)) (number_bytes 4 0);
      is = refl;
      front_is = omega (arith, length-append laid.front (number_bytes 4 0), length-append (laid.front ++ number_bytes 4 0) (number_bytes 4 0));
      back_is = omega arith;
    }
point-within words begin laid (byte ∷ bytes) fits small =
    let offset = number_bytes 4 (begin + length laid.back) in
    let size = number_bytes 4 (length (byte ∷ bytes)) in
    let padding = (4 - length (byte ∷ bytes) % 4) % 4 in
    record {
      laid = add (add_data (add laid offset) (byte ∷ bytes)) size;
      is = rw (number_in-is 4 (begin + length laid.back) (omega (arith, small)), number_in-is 4 (length (byte ∷ bytes)) (omega (arith, small, fits))) refl;
      front_is = omega (arith, length-append laid.front offset, length-append (laid.front ++ offset) size, number_bytes-length 4 (begin + length laid.back), number_bytes-length 4 (length (byte ∷ bytes)));
      back_is = omega (arith, fits, length-append (laid.back ++ (byte ∷ bytes)) (replicate {A = ℕ} padding 0), length-append laid.back (byte ∷ bytes), length-replicate {A = ℕ} padding 0);
    }

form-within : (words begin : ℕ) (form : Form) (laid : Laid) (before : List Value) (value : Value) → FormFits words form before value → begin + length laid.back + data_of words form < 2 ^ 32
    → LaysWithin (lay_form form begin laid before value) (length laid.front + room form before) (length laid.back + data_of words form)
form-within words begin (one (in_place u32)) laid before (number n) fits small = add-within laid (number_bytes 4 n) _ 4 (rw (number_in-is 4 n fits) refl) (number_bytes-length 4 n)
form-within words begin (one (in_place uuid)) laid before (uuid_of bytes) fits small = add-within laid bytes _ 16 (rw (octets_in-is 16 bytes fits) refl) fits
form-within words begin (one text) laid before (text_of chars) fits small = rw (lay_text-is begin laid chars fits.0) (point-within words begin laid (utf16_bytes chars) fits.1 small)
form-within words begin (one binary) laid before (octets bytes) fits small = point-within words begin laid bytes fits small
form-within words begin (run place fixed) laid before (elements no_more) fits small = rw fits (add-within laid (number_bytes 4 0) _ 4 refl refl)
form-within words begin (perhaps fixed) laid before absent fits small = add-within laid (number_bytes 4 0) _ 4 refl refl
form-within words begin _ laid before value fits small = absurd fits

fields-within : (words begin : ℕ) (layout : Layout) (laid : Laid) (before values : List Value) → FieldsFit words layout before values → begin + length laid.back + all_data words layout < 2 ^ 32
    → LaysWithin (lay_fields layout begin laid before values) (length laid.front + rooms layout before values) (length laid.back + all_data words layout)
fields-within words begin no_fields laid before [] fit small = record { laid = laid; is = refl; front_is = omega arith; back_is = omega arith }
fields-within words begin no_fields laid before (value ∷ values) fit small = absurd fit
fields-within words begin (field name form more) laid before [] fit small = absurd fit
fields-within words begin (field name form more) laid before (value ∷ values) fit small =
    let here = form-within words begin form laid before value fit.0 (omega (arith, small)) in
    let rest = fields-within words begin more here.laid (before ++ value ∷ []) values fit.1 (omega (arith, small, here.back_is)) in
    record {
      laid = rest.laid;
      is = rw here.is rest.is;
      front_is = omega (arith, here.front_is, rest.front_is);
      back_is = omega (arith, here.back_is, rest.back_is);
    }

-- an encoding of at most so many bytes
pub record EncodesWithin (layout : Layout) (values : List Value) (most : ℕ) : Type 0 where
  pub buffer : List ℕ
  pub is : canon layout values ≡ Some buffer
  pub short : length buffer ≤ most

pub canon-within : (words most : ℕ) (layout : Layout) (values : List Value) → FieldsFit words layout [] values → rooms layout [] values + all_data words layout ≤ most → most < 2 ^ 32 → EncodesWithin layout values most
canon-within words most layout values fit within small =
    let laid = fields-within words (rooms layout [] values) layout nothing [] values fit (omega (arith, within, small)) in
    record {
      buffer = bytes_of laid.laid;
      is = ap (option_map bytes_of) laid.is;
      short = omega (arith, within, laid.front_is, laid.back_is, length-append laid.laid.front laid.laid.back);
    }
