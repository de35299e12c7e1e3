-- The JSON of a value gives the value back.
use Rattle.std.proofs.Common.{◌≡◌, ℕ, pos, negsuc, ◌+◌, ◌*◌, ◌%◌, ◌-◌, ◌^◌, ◌<◌, inl, inr, ◌&&◌, nat_lt, Bool, true, false, List, [], ◌∷◌, length, map, zero, suc, codes, Option, Some, None, Ok, encode_utf8_all, refl, sym, ap, subst, ◌∙◌, arith, if◌then◌else◌}
use Rattle.std.proofs.lemmas.Bool.{and_parts}
use Rattle.std.proofs.lemmas.Bool.Decides.{nat_tests}
use Rattle.std.specs.Prelude.{IsTrue}
use Rattle.std.specs.List.{flat_map, list_all}
use Rattle.std.specs.Result.{result_ok}
use Rattle.std.specs.Str.{is_utf8}
use Rattle.framing.specs.Framing.{AreBytes}
use Rattle.hex.proofs.HexLemmas.{decode_of-encode_upper}
use Rattle.serde_json.specs.Data.{unsigned as natural, Data, number as numeral, string as quoted, array as listed, object, Items, Members, no_members, member}
use Rattle.serde_json.specs.Events.{items_len}
use Rattle.serde_json.specs.Find.{of_integer}
use Rattle.serde_json.specs.View.{items_of}
use Rattle.qmi_shapes.specs.declared.shape.Prefix.{Prefix}
use Rattle.qmi_shapes.specs.declared.shape.Prefix.TheVariants.{Rest}
use Rattle.qmi_shapes.specs.Form.{Form, unsigned, signed, string, array, sequence, Fields, no_fields, field}
use Rattle.qmi_shapes.specs.WellMade.{IsSize, IsPart, AreParts}
use Rattle.qmi_values.specs.Value.{Value, number, integer, text, elements, members, Values, no_values, first, list_of, values_of, number_in, integer_in, text_in, elements_in, members_in}
use Rattle.qmi_values.proofs.Spellings.{values_of-list_of}
use Rattle.tlv_values.specs.Spelling.{count_fits, fits, fields_fit}
use Rattle.message_tables.specs.Tlvs.{is_byte}
use Rattle.json_values.specs.Paths.{Fitting, fitting_as}
use Rattle.json_values.specs.Texts.{digits_in, hex_in, octets_in}
use Rattle.json_values.specs.Given.{if_counted, text_by, elements_by, list_by, bytes_or, digits_for, unless_other, given, fields_given}
use Rattle.json_values.proofs.Fits.{byte_form}
use Rattle.json_values.proofs.Widths.{wide_enough}
use Rattle.json_values.specs.Showing.{Showing, wordless}
use Rattle.json_values.specs.Json.{hexadecimal, text_json, low_byte, list_json, or_null, json_of, with_fields}
use Rattle.json_values.specs.Apart.{HasNamesApart, AreNamedApart, HasBytes, EachHasBytes}
use Rattle.json_values.specs.JsonLaws.{GivesBack}
use Rattle.json_values.proofs.JsonMembers.{HoldsAll, with_fields-hold, no_other}

counted : {A : Type 0} (prefix : Prefix) (count : ℕ) (made : Fitting A) → IsTrue (count_fits prefix count) → if_counted prefix count made ≡ made
counted prefix count made fit = rw fit refl

-- ---- numbers and texts ----

number_back : (size : ℕ) (value : Value) → IsTrue (fits (unsigned size) value) → given (unsigned size) (or_null (λ n. numeral (natural n)) (number_in value)) ≡ Ok value
number_back size (number n) fit = rw fit refl
number_back size (integer _) fit = absurd (cc)
number_back size (text _) fit = absurd (cc)
number_back size (elements _) fit = absurd (cc)
number_back size (members _) fit = absurd (cc)

integer_back : (size : ℕ) (value : Value) → IsSize size → IsTrue (fits (signed size) value) → given (signed size) (or_null (λ z. numeral (of_integer z)) (integer_in value)) ≡ Ok value
integer_back size (integer (pos n)) narrow fit =
    let less : n < 2 ^ (8 * size - 1) = grind (arith, nat_tests, fit) in
    let wide : nat_lt n (2 ^ 63) ≡ true = wide_enough n (8 * size - 1) 63 less (omega (arith, narrow.1)) in
    rw (wide, fit) refl
integer_back size (integer (negsuc n)) narrow fit = rw fit refl
integer_back size (number _) narrow fit = absurd (cc)
integer_back size (text _) narrow fit = absurd (cc)
integer_back size (elements _) narrow fit = absurd (cc)
integer_back size (members _) narrow fit = absurd (cc)

pub octets_back : (octets : List ℕ) → AreBytes octets → octets_in (text_json octets) ≡ Some octets
unfolding octets_in hex_in digits_in text_json
octets_back octets are =
    let step : (b : Bool) → is_utf8 octets ≡ b → octets_in (if b then quoted octets else object (member (codes "hex") (hexadecimal octets) no_members)) ≡ Some octets =
    λ b. elim b as (λ b. is_utf8 octets ≡ b → octets_in (if b then quoted octets else object (member (codes "hex") (hexadecimal octets) no_members)) ≡ Some octets)
    [ true ↦ λ e. refl | false ↦ λ e. ap (λ r. result_ok r) (decode_of-encode_upper octets are) ] in
    step (is_utf8 octets) refl

text_back : (prefix : Prefix) (value : Value) → IsTrue (fits (string prefix) value) → HasBytes value → given (string prefix) (or_null text_json (text_in value)) ≡ Ok value
text_back prefix (text octets) fit are = ap (text_by prefix) (octets_back octets are) ∙ counted prefix (length octets) (Ok (text octets)) fit
text_back prefix (number _) fit are = absurd (cc)
text_back prefix (integer _) fit are = absurd (cc)
text_back prefix (elements _) fit are = absurd (cc)
text_back prefix (members _) fit are = absurd (cc)

-- ---- lists of bytes ----

byte_first : (byte : ℕ) (bytes : List ℕ) → byte < 256 → AreBytes bytes → AreBytes (byte ∷ bytes)
byte_first byte bytes less are zero = less
byte_first byte bytes less are (suc at) = are at

-- bytes are the low bytes of their numbers
bytes_are : (values : List Value) → IsTrue (list_all (fits (unsigned 1)) values)
    → (map number (flat_map low_byte values) ≡ values) × (length (flat_map low_byte values) ≡ length values) × AreBytes (flat_map low_byte values)
bytes_are [] fit = (refl, refl, λ at. omega arith)
bytes_are (number n ∷ more) fit =
    let p = and_parts (fits (unsigned 1) (number n)) (list_all (fits (unsigned 1)) more) fit in
    let rest = bytes_are more p.1 in
    let less : n < 256 = grind (arith, nat_tests, p.0) in
    let low : n % 256 ≡ n = omega (arith, less) in
    (rw low (ap (λ (l : List Value). number n ∷ l) rest.0), ap suc rest.1, byte_first (n % 256) (flat_map low_byte more) (omega arith) rest.2)
bytes_are (integer _ ∷ more) fit = absurd (cc)
bytes_are (text _ ∷ more) fit = absurd (cc)
bytes_are (elements _ ∷ more) fit = absurd (cc)
bytes_are (members _ ∷ more) fit = absurd (cc)

digits_back : (prefix : Prefix) (element : Form) (values : Values) → is_byte element ≡ true → IsTrue (fits (array prefix element) (elements values))
    → given (array prefix element) (hexadecimal (flat_map low_byte (list_of values))) ≡ Ok (elements values)
unfolding digits_in
digits_back prefix element values is fit =
    let p = and_parts (count_fits prefix (length (list_of values))) (list_all (fits element) (list_of values)) fit in
    let bytes : List ℕ = flat_map low_byte (list_of values) in
    let same = bytes_are (list_of values) (subst (λ (f : Form). IsTrue (list_all (fits f) (list_of values))) (byte_form element is) p.1) in
    let read : digits_for element (hexadecimal bytes) ≡ Some bytes = rw is (ap (λ r. result_ok r) (decode_of-encode_upper bytes same.2)) in
    let many : IsTrue (count_fits prefix (length bytes)) = rw same.1 p.0 in
    ap (λ (found : Option (List ℕ)). bytes_or prefix found (list_by prefix None (given element))) read
    ∙ counted prefix (length bytes) (Ok (elements (values_of (map number bytes)))) many
    ∙ ap (λ (l : List Value). Ok (elements (values_of l))) same.0 ∙ ap (λ (l : Values). Ok (elements l)) (values_of-list_of values)

-- ---- lists ----

items_many : (json : Value → Data) (values : List Value) → items_len (items_of (map json values)) ≡ length values
items_many json [] = refl
items_many json (value ∷ more) = ap suc (items_many json more)

module _ (json : Value → Data) (read : Data → Fitting Value) (fit : Value → Bool) (good : (v : Value) → IsTrue (fit v) → HasBytes v → read (json v) ≡ Ok v) where
  each_back : (at : ℕ) (values : Values) → IsTrue (list_all fit (list_of values)) → EachHasBytes values → elements_by read at (items_of (map json (list_of values))) ≡ Ok (list_of values)
  each_back at no_values all are = refl
  each_back at (first value more) all are =
      let p = and_parts (fit value) (list_all fit (list_of more)) all in
      rw (good value p.0 are.0, each_back (at + 1) more p.1 are.1) refl

module _ (json : Value → Data) (prefix : Prefix) (element : Form) (good : (v : Value) → IsTrue (fits element v) → HasBytes v → given element (json v) ≡ Ok v) where
  no_digits : (items : Items) → digits_for element (listed items) ≡ None
  unfolding digits_in
  no_digits items =
      let step : (b : Bool) → (if b then digits_in (listed items) else None) ≡ None = λ b. elim b as (λ b. (if b then digits_in (listed items) else None) ≡ None) [ true ↦ refl | false ↦ refl ] in
      step (is_byte element)

  elements_back : (values : Values) → IsTrue (fits (array prefix element) (elements values)) → EachHasBytes values
      → given (array prefix element) (listed (items_of (map json (list_of values)))) ≡ Ok (elements values)
  elements_back values fit are =
      let items : Items = items_of (map json (list_of values)) in
      let p = and_parts (count_fits prefix (length (list_of values))) (list_all (fits element) (list_of values)) fit in
      let many : IsTrue (count_fits prefix (items_len items)) = rw (items_many json (list_of values)) p.0 in
      ap (λ (found : Option (List ℕ)). bytes_or prefix found (list_by prefix (Some items) (given element))) (no_digits items)
      ∙ counted prefix (items_len items) (fitting_as (λ vs. elements (values_of vs)) (elements_by (given element) 0 items)) many
      ∙ ap (fitting_as (λ (vs : List Value). elements (values_of vs))) (each_back json (given element) (fits element) good 0 values p.1 are)
      ∙ ap (λ (l : Values). Ok (elements l)) (values_of-list_of values)

  array_back : (digits : Bool) (value : Value) → IsTrue (fits (array prefix element) value) → HasBytes value
      → given (array prefix element) (or_null (λ values. list_json (digits && is_byte element) json (list_of values)) (elements_in value)) ≡ Ok value
  array_back digits (elements values) fit are = by (digits && is_byte element) refl
    where
      by : (b : Bool) → (digits && is_byte element) ≡ b → given (array prefix element) (list_json b json (list_of values)) ≡ Ok (elements values)
      by true is = digits_back prefix element values (and_parts digits (is_byte element) is).1 fit
      by false is = elements_back values fit are
  array_back digits (number _) fit are = absurd (cc)
  array_back digits (integer _) fit are = absurd (cc)
  array_back digits (text _) fit are = absurd (cc)
  array_back digits (members _) fit are = absurd (cc)

-- ---- sequences ----

sequence_back : (showing : Showing) (fields : Fields) (value : Value) → IsTrue (fits (sequence fields) value) → HasBytes value → AreNamedApart fields
    → ((values : Values) (held : Members) → IsTrue (fields_fit fields (list_of values)) → EachHasBytes values → HoldsAll (wordless showing) fields (list_of values) held → fields_given fields (object held) ≡ Ok (list_of values))
    → given (sequence fields) (or_null (λ values. object (with_fields (wordless showing) fields (list_of values) no_members)) (members_in value)) ≡ Ok value
sequence_back showing fields (members values) fit are apart good =
    let held : Members = with_fields (wordless showing) fields (list_of values) no_members in
    ap (λ (other : Option (List ℕ)). unless_other other (fitting_as (λ (vs : List Value). members (values_of vs)) (fields_given fields (object held)))) (no_other showing fields (list_of values))
    ∙ ap (fitting_as (λ (vs : List Value). members (values_of vs))) (good values held fit are (with_fields-hold (wordless showing) fields (list_of values) no_members apart))
    ∙ ap (λ (l : Values). Ok (members l)) (values_of-list_of values)
sequence_back showing fields (number _) fit are apart good = absurd (cc)
sequence_back showing fields (integer _) fit are apart good = absurd (cc)
sequence_back showing fields (text _) fit are apart good = absurd (cc)
sequence_back showing fields (elements _) fit are apart good = absurd (cc)

mutual
  part_back : (showing : Showing) (digits : Bool) (form : Form) (value : Value) → IsPart form → HasNamesApart form → IsTrue (fits form value) → HasBytes value
      → given form (json_of (wordless showing) digits form value) ≡ Ok value
  part_back showing digits (unsigned size) value part apart fit are = number_back size value fit
  part_back showing digits (signed size) value part apart fit are = integer_back size value part fit
  part_back showing digits (string prefix) value part apart fit are = text_back prefix value fit are
  part_back showing digits (array prefix element) value part apart fit are =
      array_back (json_of (wordless showing) false element) prefix element (λ v fit_v are_v. part_back showing false element v part.1 apart fit_v are_v) digits value fit are
  part_back showing digits (sequence fields) value part apart fit are =
      sequence_back showing fields value fit are apart (λ values held fit_vs are_vs holds. fields_back showing fields values held part.1 apart fit_vs are_vs holds)

  fields_back : (showing : Showing) (fields : Fields) (values : Values) (held : Members) → AreParts fields → AreNamedApart fields → IsTrue (fields_fit fields (list_of values)) → EachHasBytes values
      → HoldsAll (wordless showing) fields (list_of values) held → fields_given fields (object held) ≡ Ok (list_of values)
  fields_back showing no_fields no_values held parts apart fit are holds = refl
  fields_back showing no_fields (first value more) held parts apart fit are holds = absurd (cc)
  fields_back showing (field name form more) no_values held parts apart fit are holds = absurd (cc)
  fields_back showing (field name form more) (first value values) held parts apart fit are holds =
      let p = and_parts (fits form value) (fields_fit more (list_of values)) fit in
      let here = part_back showing (showing.digits (encode_utf8_all name)) form value parts.0 apart.1 p.0 are.0 in
      let later = fields_back showing more values held parts.1 apart.2 p.1 are.1 holds.1 in
      rw (holds.0, here, later) refl

pub gives_back : GivesBack
gives_back showing digits form value (inl is) apart fit are =
    subst (λ (f : Form). IsTrue (fits f value) → given f (json_of (wordless showing) digits f value) ≡ Ok value) (sym is) (λ fits_text. text_back Rest value fits_text are) fit
gives_back showing digits form value (inr part) apart fit are = part_back showing digits form value part apart fit are
