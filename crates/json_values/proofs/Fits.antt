-- What JSON gives in a form is a value that the form spells.
use Rattle.std.proofs.Common.{◌≡◌, ℕ, ℤ, ◌+◌, Bool, true, false, List, [], ◌∷◌, length, map, Option, Some, None, option_and_then, Result, Ok, Err, refl, sym, ap, subst, ◌∙◌, suc, arith, if◌then◌else◌}
use Rattle.std.proofs.lemmas.List.{length-map}
use Rattle.std.proofs.lemmas.Bool.{lt-ltb}
use Rattle.std.proofs.lemmas.Bool.Decides.{nat_tests}
use Rattle.std.specs.Prelude.{IsTrue}
use Rattle.std.specs.Result.{result_ok}
use Rattle.std.specs.Str.{encode_utf8_all}
use Rattle.hex.specs.Hex.{decode_of, IsBytes}
use Rattle.hex.specs.declared.error.FromHexError.{FromHexError}
use Rattle.hex.proofs.HexLemmas.{decode_of-ok}
use Rattle.std.specs.List.{list_all}
use Rattle.std.specs.Cmp.Derive.{both_true}
use Rattle.serde_json.specs.Data.{Data, Items, no_items, item, Members}
use Rattle.serde_json.specs.Events.{items_len}
use Rattle.serde_json.specs.Find.{get, as_str, as_number, as_u64, as_i64, as_array, as_object}
use Rattle.qmi_shapes.specs.declared.shape.Prefix.{Prefix}
use Rattle.qmi_shapes.specs.Form.{Form, unsigned, signed, string, array, sequence, Fields, no_fields, field}
use Rattle.qmi_values.specs.Value.{Value, number, integer, text, elements, members, list_of, values_of}
use Rattle.qmi_values.proofs.Spellings.{list_of-values_of}
use Rattle.tlv_values.specs.Spelling.{unsigned_fits, signed_fits, count_fits, fits, fields_fit}
use Rattle.message_tables.specs.Tlvs.{is_byte}
use Rattle.json_values.specs.declared.path.Step.{Step}
use Rattle.json_values.specs.declared.path.Step.TheVariants.{Member, Element}
use Rattle.json_values.specs.Paths.{Fitting, fitting, fitting_as, under, both}
use Rattle.json_values.specs.Texts.{digits_in, octets_in}
use Rattle.json_values.specs.Given.{if_unsigned, if_signed, if_counted, text_by, elements_by, list_by, bytes_or, digits_for, first_other, unless_other, names_of, sequence_by, member_by, named_by, given, fields_given}
use Rattle.json_values.specs.Laws.{GivesWhatFits}

-- ---- what is inside a value that is given ----

ok_is : {A B : Type 0} (seen : A → B) (made : Fitting A) (value : B) → fitting_as seen made ≡ Ok value → (a : A) × (made ≡ Ok a) × (seen a ≡ value)
ok_is seen (Ok a) value is = (a, refl, cc)
ok_is seen (Err path) value is = absurd cc

under_ok : {A : Type 0} (step : Step) (made : Fitting A) (value : A) → under step made ≡ Ok value → made ≡ Ok value
under_ok step (Ok a) value is = is
under_ok step (Err path) value is = absurd cc

both_ok : {A B C : Type 0} (join : A → B → C) (first : Fitting A) (second : Fitting B) (value : C) → both join first second ≡ Ok value
    → (a : A) × (b : B) × (first ≡ Ok a) × (second ≡ Ok b) × (join a b ≡ value)
both_ok join (Err path) second value is = absurd cc
both_ok join (Ok a) (Err path) value is = absurd cc
both_ok join (Ok a) (Ok b) value is = (a, b, refl, refl, cc)

counted_ok : {A : Type 0} (prefix : Prefix) (count : ℕ) (made : Fitting A) (value : A) → if_counted prefix count made ≡ Ok value → IsTrue (count_fits prefix count) × (made ≡ Ok value)
counted_ok prefix count made value = by (count_fits prefix count) refl
  where
    by : (b : Bool) → count_fits prefix count ≡ b → (if b then made else Err []) ≡ Ok value → IsTrue (count_fits prefix count) × (made ≡ Ok value)
    by true fit is = (fit, is)
    by false fit is = absurd cc

-- ---- numbers and texts ----

unsigned_given : (size : ℕ) (n : Option ℕ) (value : Value) → fitting number (option_and_then (if_unsigned size) n) ≡ Ok value → IsTrue (fits (unsigned size) value)
unsigned_given size None value is = absurd cc
unsigned_given size (Some n) value is = by (unsigned_fits size n) refl is
  where
    by : (b : Bool) → unsigned_fits size n ≡ b → fitting number (if b then Some n else None) ≡ Ok value → IsTrue (fits (unsigned size) value)
    by true fit is = let same : number n ≡ value = cc in subst (λ (v : Value). IsTrue (fits (unsigned size) v)) same fit
    by false fit is = absurd cc

signed_given : (size : ℕ) (z : Option ℤ) (value : Value) → fitting integer (option_and_then (if_signed size) z) ≡ Ok value → IsTrue (fits (signed size) value)
signed_given size None value is = absurd cc
signed_given size (Some z) value is = by (signed_fits size z) refl is
  where
    by : (b : Bool) → signed_fits size z ≡ b → fitting integer (if b then Some z else None) ≡ Ok value → IsTrue (fits (signed size) value)
    by true fit is = let same : integer z ≡ value = cc in subst (λ (v : Value). IsTrue (fits (signed size) v)) same fit
    by false fit is = absurd cc

text_given : (prefix : Prefix) (octets : Option (List ℕ)) (value : Value) → text_by prefix octets ≡ Ok value → IsTrue (fits (string prefix) value)
text_given prefix None value is = absurd cc
text_given prefix (Some octets) value is =
    let p = counted_ok prefix (length octets) (Ok (text octets)) value is in
    let same : text octets ≡ value = let e = p.1 in cc in
    subst (λ (v : Value). IsTrue (fits (string prefix) v)) same p.0

-- ---- lists ----

listed : (prefix : Prefix) (element : Form) (vs : List Value) (count : ℕ) → IsTrue (count_fits prefix count) → length vs ≡ count → IsTrue (list_all (fits element) vs) → IsTrue (fits (array prefix element) (elements (values_of vs)))
listed prefix element vs count fit many each = rw (list_of-values_of vs, many) (both_true fit each)

pub byte_form : (element : Form) → is_byte element ≡ true → element ≡ unsigned 1
byte_form (unsigned size) is = let one : size ≡ 1 = grind (arith, nat_tests, is) in ap unsigned one
byte_form (signed size) is = absurd cc
byte_form (string prefix) is = absurd cc
byte_form (array prefix element) is = absurd cc
byte_form (sequence parts) is = absurd cc

bytes_fit : (bytes : List ℕ) → IsBytes bytes → IsTrue (list_all (fits (unsigned 1)) (map number bytes))
bytes_fit [] are = refl
bytes_fit (byte ∷ bytes) are = both_true (lt-ltb byte 256 (are 0)) (bytes_fit bytes (λ at. are (suc at)))

digits_bytes : (text : Option (List ℕ)) (bytes : List ℕ) → option_and_then (λ digits. result_ok (decode_of digits)) text ≡ Some bytes → IsBytes bytes
digits_bytes None bytes is = absurd cc
digits_bytes (Some digits) bytes is = by (decode_of digits) refl is
  where
    by : (found : Result (List ℕ) FromHexError) → decode_of digits ≡ found → result_ok found ≡ Some bytes → IsBytes bytes
    by (Ok all) found is = let same : all ≡ bytes = cc in (decode_of-ok digits bytes (found ∙ ap (λ l. Ok l) same)).3
    by (Err fault) found is = absurd cc

digits_in_bytes : (json : Data) (bytes : List ℕ) → digits_in json ≡ Some bytes → IsBytes bytes
unfolding digits_in
digits_in_bytes json bytes is = digits_bytes (as_str json) bytes is

each_given : (read : Data → Fitting Value) (fit : Value → Bool) → ((json : Data) (value : Value) → read json ≡ Ok value → IsTrue (fit value))
    → (at : ℕ) (items : Items) (vs : List Value) → elements_by read at items ≡ Ok vs → IsTrue (list_all fit vs) × (length vs ≡ items_len items)
each_given read fit good at no_items vs is =
    let none : [] ≡ vs = cc in subst (λ (l : List Value). IsTrue (list_all fit l) × (length l ≡ 0)) none (refl, refl)
each_given read fit good at (item json more) vs is =
    let p = both_ok (λ (first : Value) (values : List Value). first ∷ values) (under (Element at) (read json)) (elements_by read (at + 1) more) vs is in
    let here = good json p.0 (under_ok (Element at) (read json) p.0 p.2) in
    let rest = each_given read fit good (at + 1) more p.1 p.3 in
    subst (λ (l : List Value). IsTrue (list_all fit l) × (length l ≡ items_len (item json more))) p.4 (both_true here rest.0, ap suc rest.1)

-- a list that is given by digits or by its elements
list_given : (prefix : Prefix) (element : Form) (json : Data) (bytes : Option (List ℕ)) (list : Fitting Value) (value : Value) → digits_for element json ≡ bytes
    → ((v : Value) → list ≡ Ok v → IsTrue (fits (array prefix element) v)) → bytes_or prefix bytes list ≡ Ok value → IsTrue (fits (array prefix element) value)
list_given prefix element json None list value is good made = good value made
list_given prefix element json (Some bytes) list value is good made = by (is_byte element) refl is
  where
    by : (b : Bool) → is_byte element ≡ b → (if b then digits_in json else None) ≡ Some bytes → IsTrue (fits (array prefix element) value)
    by false one is = absurd cc
    by true one is =
        let p = counted_ok prefix (length bytes) (Ok (elements (values_of (map number bytes)))) value made in
        let same : elements (values_of (map number bytes)) ≡ value = let e = p.1 in cc in
        let each = subst (λ (f : Form). IsTrue (list_all (fits f) (map number bytes))) (sym (byte_form element one)) (bytes_fit bytes (digits_in_bytes json bytes is)) in
        subst (λ (v : Value). IsTrue (fits (array prefix element) v)) same (listed prefix element (map number bytes) (length bytes) p.0 (length-map bytes number) each)

elements_given : (prefix : Prefix) (element : Form) (items : Option Items) (read : Data → Fitting Value) (value : Value) → ((json : Data) (v : Value) → read json ≡ Ok v → IsTrue (fits element v))
    → list_by prefix items read ≡ Ok value → IsTrue (fits (array prefix element) value)
elements_given prefix element None read value good made = absurd cc
elements_given prefix element (Some items) read value good made =
    let p = counted_ok prefix (items_len items) (fitting_as (λ values. elements (values_of values)) (elements_by read 0 items)) value made in
    let vs = ok_is (λ (values : List Value). elements (values_of values)) (elements_by read 0 items) value p.1 in
    let each = each_given read (fits element) good 0 items vs.0 vs.1 in
    subst (λ (v : Value). IsTrue (fits (array prefix element) v)) vs.2 (listed prefix element vs.0 (items_len items) p.0 each.1 each.0)

-- ---- sequences ----

member_ok : (read : Data → Fitting Value) (json : Option Data) (value : Value) → member_by read json ≡ Ok value → (found : Data) × (read found ≡ Ok value)
member_ok read None value is = absurd cc
member_ok read (Some json) value is = (json, is)

sequence_given : (parts : Fields) (others : Option Members) (names : List (List ℕ)) (values : Fitting (List Value)) (value : Value) → ((vs : List Value) → values ≡ Ok vs → IsTrue (fields_fit parts vs))
    → sequence_by others names values ≡ Ok value → IsTrue (fits (sequence parts) value)
sequence_given parts None names values value good made = absurd cc
sequence_given parts (Some others) names values value good made = by (first_other names others) made
  where
    by : (other : Option (List ℕ)) → unless_other other (fitting_as (λ vs. members (values_of vs)) values) ≡ Ok value → IsTrue (fits (sequence parts) value)
    by (Some key) made = absurd cc
    by None made =
        let vs = ok_is (λ (vs : List Value). members (values_of vs)) values value made in
        let all : list_of (values_of vs.0) ≡ vs.0 = list_of-values_of vs.0 in
        subst (λ (v : Value). IsTrue (fits (sequence parts) v)) vs.2 (subst (λ (l : List Value). IsTrue (fields_fit parts l)) (sym all) (good vs.0 vs.1))

mutual
  pub fits_given : GivesWhatFits
  fits_given (unsigned size) json value is = unsigned_given size (option_and_then as_u64 (as_number json)) value is
  fits_given (signed size) json value is = signed_given size (option_and_then as_i64 (as_number json)) value is
  fits_given (string prefix) json value is = text_given prefix (octets_in json) value is
  fits_given (array prefix element) json value is =
      list_given prefix element json (digits_for element json) (list_by prefix (as_array json) (given element)) value refl
      (λ v made. elements_given prefix element (as_array json) (given element) v (fits_given element) made) is
  fits_given (sequence fields) json value is = sequence_given fields (as_object json) (names_of fields) (fields_given fields json) value (fields_fit_given fields json) is

  fields_fit_given : (fields : Fields) (json : Data) (vs : List Value) → fields_given fields json ≡ Ok vs → IsTrue (fields_fit fields vs)
  fields_fit_given no_fields json vs is = let none : [] ≡ vs = cc in subst (λ (l : List Value). IsTrue (fields_fit no_fields l)) none refl
  fields_fit_given (field name form more) json vs is =
      let p = both_ok (λ (first : Value) (values : List Value). first ∷ values) (named_by name (given form) (get (encode_utf8_all name) json)) (fields_given more json) vs is in
      let here = member_ok (given form) (get (encode_utf8_all name) json) p.0 (under_ok (Member name) (member_by (given form) (get (encode_utf8_all name) json)) p.0 p.2) in
      subst (λ (l : List Value). IsTrue (fields_fit (field name form more) l)) p.4 (both_true (fits_given form here.0 p.0 here.1) (fields_fit_given more json p.1 p.3))

-- so is what a member gives that is there
pub fits_named : (name : List ℕ) (form : Form) (json : Data) (value : Value) → named_by name (given form) (Some json) ≡ Ok value → IsTrue (fits form value)
fits_named name form json value is = fits_given form json value (under_ok (Member name) (given form json) value is)
