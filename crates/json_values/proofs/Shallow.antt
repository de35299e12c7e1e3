-- The JSON of a value nests no deeper than its form, and has no float.
use Rattle.std.proofs.Common.{◌≡◌, ℕ, ℤ, pos, negsuc, ◌≤◌, max, Bool, true, false, List, [], ◌∷◌, map, suc, Option, Some, None, codes, encode_utf8_all, refl, arith, if◌then◌else◌, ◌&&◌}
use Rattle.std.proofs.lemmas.Bool.{or_from}
use Rattle.std.specs.Str.{is_utf8}
use Rattle.serde_json.specs.Data.{Data, null, unsigned as natural, string as quoted, number as numeral, object, Members, no_members, member, put, depth, items_depth, members_depth}
use Rattle.serde_json.specs.Find.{of_integer}
use Rattle.serde_json.specs.Written.{has_float, items_have_float, members_have_float}
use Rattle.serde_json.specs.View.{items_of}
use Rattle.qmi_shapes.specs.Form.{Form, unsigned, signed, string, array, sequence, Fields, no_fields, field}
use Rattle.qmi_values.specs.Value.{Value, list_of, number_in, integer_in, text_in, elements_in, members_in}
use Rattle.message_tables.specs.Tlvs.{is_byte, nesting, fields_nesting}
use Rattle.json_values.specs.Showing.{Showing}
use Rattle.json_values.specs.Json.{hexadecimal, text_json, list_json, or_null, json_of, word_key, word_of, with_word, with_field, with_fields}
use Rattle.json_values.specs.JsonLaws.{NestsAsItsForm}
use Rattle.json_values.proofs.JsonMembers.{put-shallow, put-no_float}

-- ---- what holds of a value's JSON where it holds of null and of what a value of its form gives ----

pub or_null_all : {A : Type 0} (P : Data → Type 0) (json : A → Data) (found : Option A) → P null → ((a : A) → P (json a)) → P (or_null json found)
or_null_all P json None none each = none
or_null_all P json (Some a) none each = each a

text_all : (P : Data → Type 0) (octets : List ℕ) → P (quoted octets) → P (object (member (codes "hex") (hexadecimal octets) no_members)) → P (text_json octets)
unfolding text_json
text_all P octets as_text as_digits =
    let step : (b : Bool) → P (if b then quoted octets else object (member (codes "hex") (hexadecimal octets) no_members)) =
    λ b. elim b as (λ b. P (if b then quoted octets else object (member (codes "hex") (hexadecimal octets) no_members))) [ true ↦ as_text | false ↦ as_digits ] in
    step (is_utf8 octets)

-- ---- depth ----

pub text_shallow : (octets : List ℕ) → depth (text_json octets) ≤ 1
text_shallow octets = text_all (λ d. depth d ≤ 1) octets (omega arith) (omega arith)

with_word-shallow : (key : List ℕ) (word : Option (List ℕ)) (so_far : Members) → members_depth (with_word key word so_far) ≤ max 1 (members_depth so_far)
with_word-shallow key None so_far = omega arith
with_word-shallow key (Some word) so_far =
    let added = put-shallow (word_key key) (text_json word) so_far in
    let text = text_shallow word in
    omega (arith, added, text)

some_level : (form : Form) → 1 ≤ nesting form
some_level (unsigned size) = omega arith
some_level (signed size) = omega arith
some_level (string prefix) = omega arith
some_level (array prefix element) = omega arith
some_level (sequence fields) = omega arith

-- a member and its word
pub member_shallow : (key : List ℕ) (json : Data) (word : Option (List ℕ)) (so_far : Members) (most : ℕ) → depth json ≤ most → 1 ≤ most → members_depth (with_word key word (put key json so_far)) ≤ max most (members_depth so_far)
member_shallow key json word so_far most less some =
    let added = put-shallow key json so_far in
    let worded = with_word-shallow key word (put key json so_far) in
    omega (arith, less, some, added, worded)

pub items_shallow : {A : Type 0} (json : A → Data) (most : ℕ) → ((a : A) → depth (json a) ≤ most) → (values : List A) → items_depth (items_of (map json values)) ≤ most
items_shallow json most good [] = omega arith
items_shallow json most good (value ∷ more) = let here = good value in let later = items_shallow json most good more in omega (arith, here, later)

list_shallow : (json : Value → Data) (most : ℕ) (digits : Bool) → ((v : Value) → depth (json v) ≤ most) → (values : List Value) → depth (list_json digits json values) ≤ suc most
list_shallow json most true good values = omega arith
list_shallow json most false good values = let inside = items_shallow json most good values in omega (arith, inside)

mutual
  pub nests : NestsAsItsForm
  nests showing digits (unsigned size) value = or_null_all (λ d. depth d ≤ 1) (λ n. numeral (natural n)) (number_in value) (omega arith) (λ n. omega arith)
  nests showing digits (signed size) value = or_null_all (λ d. depth d ≤ 1) (λ z. numeral (of_integer z)) (integer_in value) (omega arith) (λ z. omega arith)
  nests showing digits (string prefix) value = or_null_all (λ d. depth d ≤ 1) text_json (text_in value) (omega arith) text_shallow
  nests showing digits (array prefix element) value =
      or_null_all (λ d. depth d ≤ suc (nesting element)) (λ values. list_json (digits && is_byte element) (json_of showing false element) (list_of values)) (elements_in value) (omega arith)
      (λ values. list_shallow (json_of showing false element) (nesting element) (digits && is_byte element) (nests showing false element) (list_of values))
  nests showing digits (sequence fields) value =
      or_null_all (λ d. depth d ≤ suc (fields_nesting fields)) (λ values. object (with_fields showing fields (list_of values) no_members)) (members_in value) (omega arith)
      (λ values. let inside = with_fields-shallow showing fields (list_of values) no_members in omega (arith, inside))

  pub with_fields-shallow : (showing : Showing) (fields : Fields) (values : List Value) (so_far : Members) → members_depth (with_fields showing fields values so_far) ≤ max (fields_nesting fields) (members_depth so_far)
  with_fields-shallow showing no_fields values so_far = omega arith
  with_fields-shallow showing (field name form more) [] so_far = omega arith
  with_fields-shallow showing (field name form more) (value ∷ values) so_far =
      let key : List ℕ = encode_utf8_all name in
      let json : Data = json_of showing (showing.digits key) form value in
      let here = member_shallow key json (word_of showing key form value) so_far (nesting form) (nests showing (showing.digits key) form value) (some_level form) in
      let later = with_fields-shallow showing more values (with_word key (word_of showing key form value) (put key json so_far)) in
      let level = some_level form in
      omega (arith, here, later)

pub with_field-shallow : (showing : Showing) (key : List ℕ) (form : Form) (value : Value) (so_far : Members) → members_depth (with_field showing key form value so_far) ≤ max (nesting form) (members_depth so_far)
with_field-shallow showing key form value so_far =
    member_shallow key (json_of showing (showing.digits key) form value) (word_of showing key form value) so_far (nesting form) (nests showing (showing.digits key) form value) (some_level form)

-- ---- no floats ----

integer_whole : (z : ℤ) → has_float (numeral (of_integer z)) ≡ false
integer_whole (pos n) = refl
integer_whole (negsuc n) = refl

pub text_no_float : (octets : List ℕ) → has_float (text_json octets) ≡ false
text_no_float octets = text_all (λ d. has_float d ≡ false) octets refl refl

with_word-no_float : (key : List ℕ) (word : Option (List ℕ)) (so_far : Members) → members_have_float so_far ≡ false → members_have_float (with_word key word so_far) ≡ false
with_word-no_float key None so_far none = none
with_word-no_float key (Some word) so_far none = put-no_float (word_key key) (text_json word) so_far (text_no_float word) none

pub member-no_float : (key : List ℕ) (json : Data) (word : Option (List ℕ)) (so_far : Members) → has_float json ≡ false → members_have_float so_far ≡ false → members_have_float (with_word key word (put key json so_far)) ≡ false
member-no_float key json word so_far one none = with_word-no_float key word (put key json so_far) (put-no_float key json so_far one none)

pub items_no_float : {A : Type 0} (json : A → Data) → ((a : A) → has_float (json a) ≡ false) → (values : List A) → items_have_float (items_of (map json values)) ≡ false
items_no_float json good [] = refl
items_no_float json good (value ∷ more) = or_from (has_float (json value)) (items_have_float (items_of (map json more))) (good value) (items_no_float json good more)

list_no_float : (json : Value → Data) (digits : Bool) → ((v : Value) → has_float (json v) ≡ false) → (values : List Value) → has_float (list_json digits json values) ≡ false
list_no_float json true good values = refl
list_no_float json false good values = items_no_float json good values

mutual
  pub no_float : (showing : Showing) (digits : Bool) (form : Form) (value : Value) → has_float (json_of showing digits form value) ≡ false
  no_float showing digits (unsigned size) value = or_null_all (λ d. has_float d ≡ false) (λ n. numeral (natural n)) (number_in value) refl (λ n. refl)
  no_float showing digits (signed size) value = or_null_all (λ d. has_float d ≡ false) (λ z. numeral (of_integer z)) (integer_in value) refl integer_whole
  no_float showing digits (string prefix) value = or_null_all (λ d. has_float d ≡ false) text_json (text_in value) refl text_no_float
  no_float showing digits (array prefix element) value =
      or_null_all (λ d. has_float d ≡ false) (λ values. list_json (digits && is_byte element) (json_of showing false element) (list_of values)) (elements_in value) refl
      (λ values. list_no_float (json_of showing false element) (digits && is_byte element) (no_float showing false element) (list_of values))
  no_float showing digits (sequence fields) value =
      or_null_all (λ d. has_float d ≡ false) (λ values. object (with_fields showing fields (list_of values) no_members)) (members_in value) refl
      (λ values. with_fields-no_float showing fields (list_of values) no_members refl)

  pub with_fields-no_float : (showing : Showing) (fields : Fields) (values : List Value) (so_far : Members) → members_have_float so_far ≡ false → members_have_float (with_fields showing fields values so_far) ≡ false
  with_fields-no_float showing no_fields values so_far none = none
  with_fields-no_float showing (field name form more) [] so_far none = none
  with_fields-no_float showing (field name form more) (value ∷ values) so_far none =
      let key : List ℕ = encode_utf8_all name in
      let json : Data = json_of showing (showing.digits key) form value in
      with_fields-no_float showing more values (with_word key (word_of showing key form value) (put key json so_far))
      (member-no_float key json (word_of showing key form value) so_far (no_float showing (showing.digits key) form value) none)

pub with_field-no_float : (showing : Showing) (key : List ℕ) (form : Form) (value : Value) (so_far : Members) → members_have_float so_far ≡ false → members_have_float (with_field showing key form value so_far) ≡ false
with_field-no_float showing key form value so_far none =
    member-no_float key (json_of showing (showing.digits key) form value) (word_of showing key form value) so_far (no_float showing (showing.digits key) form value) none
