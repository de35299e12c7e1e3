-- The JSON of values nests no deeper than their layout, and has no float.
use Rattle.std.proofs.Common.{◌≡◌, ℕ, ◌+◌, ◌≤◌, max, Bool, true, false, List, [], ◌∷◌, map, suc, codes, encode_utf8_all, refl, arith, if◌then◌else◌}
use Rattle.serde_json.specs.Data.{Data, unsigned as natural, string as quoted, number as numeral, array as listed, object, Members, no_members, put, depth, members_depth}
use Rattle.serde_json.specs.Written.{has_float, members_have_float}
use Rattle.serde_json.specs.View.{items_of}
use Rattle.mbim_fields.specs.Layout.{Fixed, u32, u64, uuid, ipv4, ipv6, prefixed_ipv4, prefixed_ipv6, Item, in_place, text, binary, structure, Form, one, each, run, perhaps, Layout, no_fields, field}
use Rattle.mbim_fields.specs.Value.{Value, list_of, as_number, as_uuid, as_octets, as_text, as_elements, as_members}
use Rattle.mbim_services.specs.declared.answers.MbimAnswer.{MbimAnswer}
use Rattle.mbim_services.specs.declared.answers.MbimAnswer.TheVariants.{Success, Failure}
use Rattle.mbim_fields.specs.View.{shape_view, val_view}
use Rattle.mbimcli_print.specs.declared.texts.Family.{Family}
use Rattle.mbimcli_print.specs.declared.texts.Family.TheVariants.{Ipv4, Ipv6}
use Rattle.mbimcli_print.specs.Printed.{is_count}
use Rattle.mbimcli_print.specs.Texts.{uuid_text, address_text}
use Rattle.json_values.specs.declared.ending.Ending.TheVariants as ending
use Rattle.json_values.specs.Json.{hexadecimal, text_json}
use Rattle.json_values.proofs.Answered.{with_ending-no_float}
use Rattle.json_values.proofs.JsonMembers.{put-shallow, put-no_float}
use Rattle.json_values.proofs.Shallow.{or_null_all, text_shallow, text_no_float, member_shallow, member-no_float, items_shallow, items_no_float}
use Rattle.fields_json.specs.Json.{number_json, address_json, pair_json, prefixed_json, fixed_json, list_json, item_json, form_json, word_of, with_field, with_fields}
use Rattle.fields_json.specs.Answers.{answer_members}
use Rattle.fields_json.specs.Nesting.{fixed_nesting, item_nesting, form_nesting, nesting}
use Rattle.fields_json.specs.Laws.{NestsAsItsLayout}

-- ---- depth ----

number_shallow : (value : Value) → depth (number_json value) ≤ 1
number_shallow value = or_null_all (λ d. depth d ≤ 1) (λ n. numeral (natural n)) (as_number value) (omega arith) (λ n. omega arith)

address_shallow : (family : Family) (value : Value) → depth (address_json family value) ≤ 1
address_shallow family value = or_null_all (λ d. depth d ≤ 1) (λ bytes. text_json (address_text family bytes)) (as_octets value) (omega arith) (λ bytes. text_shallow (address_text family bytes))

pair_shallow : (family : Family) (values : List Value) → depth (pair_json family values) ≤ 2
pair_shallow family [] = omega arith
pair_shallow family (prefix ∷ []) = omega arith
pair_shallow family (prefix ∷ address ∷ []) =
    let inner : Members = put (codes "Prefix") (number_json prefix) no_members in
    let added = put-shallow (codes "Address") (address_json family address) inner in
    let before = put-shallow (codes "Prefix") (number_json prefix) no_members in
    let number = number_shallow prefix in
    let spelled = address_shallow family address in
    omega (arith, added, before, number, spelled)
pair_shallow family (prefix ∷ address ∷ more ∷ values) = omega arith

prefixed_shallow : (family : Family) (value : Value) → depth (prefixed_json family value) ≤ 2
prefixed_shallow family value = or_null_all (λ d. depth d ≤ 2) (λ values. pair_json family (list_of values)) (as_members value) (omega arith) (λ values. pair_shallow family (list_of values))

fixed_shallow : (fixed : Fixed) (value : Value) → depth (fixed_json fixed value) ≤ fixed_nesting fixed
fixed_shallow u32 value = number_shallow value
fixed_shallow u64 value = number_shallow value
fixed_shallow uuid value = or_null_all (λ d. depth d ≤ 1) (λ bytes. text_json (uuid_text bytes)) (as_uuid value) (omega arith) (λ bytes. text_shallow (uuid_text bytes))
fixed_shallow ipv4 value = address_shallow Ipv4 value
fixed_shallow ipv6 value = address_shallow Ipv6 value
fixed_shallow prefixed_ipv4 value = prefixed_shallow Ipv4 value
fixed_shallow prefixed_ipv6 value = prefixed_shallow Ipv6 value

list_shallow : (json : Value → Data) (most : ℕ) → ((v : Value) → depth (json v) ≤ most) → (value : Value) → depth (list_json json value) ≤ suc most
list_shallow json most good value =
    or_null_all (λ d. depth d ≤ suc most) (λ values. listed (items_of (map json (list_of values)))) (as_elements value) (omega arith)
    (λ values. let inside = items_shallow json most good (list_of values) in omega (arith, inside))

fixed_level : (fixed : Fixed) → 1 ≤ fixed_nesting fixed
fixed_level u32 = omega arith
fixed_level u64 = omega arith
fixed_level uuid = omega arith
fixed_level ipv4 = omega arith
fixed_level ipv6 = omega arith
fixed_level prefixed_ipv4 = omega arith
fixed_level prefixed_ipv6 = omega arith

item_level : (item : Item) → 1 ≤ item_nesting item
item_level (in_place fixed) = fixed_level fixed
item_level text = omega arith
item_level binary = omega arith
item_level (structure layout) = omega arith

form_level : (form : Form) → 1 ≤ form_nesting form
form_level (one item) = item_level item
form_level (each place item) = omega arith
form_level (run place fixed) = omega arith
form_level (perhaps fixed) = fixed_level fixed

unless_shallow : (b : Bool) (a : Members) (c : Members) (most : ℕ) → members_depth c ≤ max most (members_depth a) → members_depth (if b then a else c) ≤ max most (members_depth a)
unless_shallow true a c most less = omega arith
unless_shallow false a c most less = less

mutual
  item_shallow : (item : Item) (value : Value) → depth (item_json item value) ≤ item_nesting item
  item_shallow (in_place fixed) value = fixed_shallow fixed value
  item_shallow text value = or_null_all (λ d. depth d ≤ 1) (λ chars. quoted (encode_utf8_all chars)) (as_text value) (omega arith) (λ chars. omega arith)
  item_shallow binary value = or_null_all (λ d. depth d ≤ 1) hexadecimal (as_octets value) (omega arith) (λ bytes. omega arith)
  item_shallow (structure layout) value =
      or_null_all (λ d. depth d ≤ suc (nesting layout)) (λ values. object (with_fields layout 0 (list_of values) no_members)) (as_members value) (omega arith)
      (λ values. let inside = with_fields-shallow layout 0 (list_of values) no_members in omega (arith, inside))

  form_shallow : (form : Form) (value : Value) → depth (form_json form value) ≤ form_nesting form
  form_shallow (one item) value = item_shallow item value
  form_shallow (each place item) value = list_shallow (item_json item) (item_nesting item) (item_shallow item) value
  form_shallow (run place fixed) value = list_shallow (fixed_json fixed) (fixed_nesting fixed) (fixed_shallow fixed) value
  form_shallow (perhaps fixed) value = fixed_shallow fixed value

  with_fields-shallow : (layout : Layout) (place : ℕ) (values : List Value) (so_far : Members) → members_depth (with_fields layout place values so_far) ≤ max (nesting layout) (members_depth so_far)
  with_fields-shallow no_fields place values so_far = omega arith
  with_fields-shallow (field name form more) place [] so_far = omega arith
  with_fields-shallow (field name form more) place (value ∷ values) so_far =
      let key : List ℕ = encode_utf8_all name in
      let added : Members = with_field key form value so_far in
      let here = member_shallow key (form_json form value) (word_of key value) so_far (form_nesting form) (form_shallow form value) (form_level form) in
      let next = unless_shallow (is_count place more) so_far added (form_nesting form) here in
      let later = with_fields-shallow more (place + 1) values (if is_count place more then so_far else added) in
      omega (arith, next, later)

pub nests : NestsAsItsLayout
nests layout values =
    let fields : Members = with_fields layout 0 values no_members in
    let ended = put-shallow (codes "result") (quoted (codes "ok")) fields in
    let inside = with_fields-shallow layout 0 values no_members in
    omega (arith, ended, inside)

-- ---- no floats ----

number_no_float : (value : Value) → has_float (number_json value) ≡ false
number_no_float value = or_null_all (λ d. has_float d ≡ false) (λ n. numeral (natural n)) (as_number value) refl (λ n. refl)

address_no_float : (family : Family) (value : Value) → has_float (address_json family value) ≡ false
address_no_float family value = or_null_all (λ d. has_float d ≡ false) (λ bytes. text_json (address_text family bytes)) (as_octets value) refl (λ bytes. text_no_float (address_text family bytes))

pair_no_float : (family : Family) (values : List Value) → has_float (pair_json family values) ≡ false
pair_no_float family [] = refl
pair_no_float family (prefix ∷ []) = refl
pair_no_float family (prefix ∷ address ∷ []) =
    put-no_float (codes "Address") (address_json family address) (put (codes "Prefix") (number_json prefix) no_members) (address_no_float family address)
    (put-no_float (codes "Prefix") (number_json prefix) no_members (number_no_float prefix) refl)
pair_no_float family (prefix ∷ address ∷ more ∷ values) = refl

prefixed_no_float : (family : Family) (value : Value) → has_float (prefixed_json family value) ≡ false
prefixed_no_float family value = or_null_all (λ d. has_float d ≡ false) (λ values. pair_json family (list_of values)) (as_members value) refl (λ values. pair_no_float family (list_of values))

fixed_no_float : (fixed : Fixed) (value : Value) → has_float (fixed_json fixed value) ≡ false
fixed_no_float u32 value = number_no_float value
fixed_no_float u64 value = number_no_float value
fixed_no_float uuid value = or_null_all (λ d. has_float d ≡ false) (λ bytes. text_json (uuid_text bytes)) (as_uuid value) refl (λ bytes. text_no_float (uuid_text bytes))
fixed_no_float ipv4 value = address_no_float Ipv4 value
fixed_no_float ipv6 value = address_no_float Ipv6 value
fixed_no_float prefixed_ipv4 value = prefixed_no_float Ipv4 value
fixed_no_float prefixed_ipv6 value = prefixed_no_float Ipv6 value

list_no_float : (json : Value → Data) → ((v : Value) → has_float (json v) ≡ false) → (value : Value) → has_float (list_json json value) ≡ false
list_no_float json good value =
    or_null_all (λ d. has_float d ≡ false) (λ values. listed (items_of (map json (list_of values)))) (as_elements value) refl (λ values. items_no_float json good (list_of values))

unless_no_float : (b : Bool) (a : Members) (c : Members) → members_have_float a ≡ false → members_have_float c ≡ false → members_have_float (if b then a else c) ≡ false
unless_no_float true a c none also = none
unless_no_float false a c none also = also

mutual
  item_no_float : (item : Item) (value : Value) → has_float (item_json item value) ≡ false
  item_no_float (in_place fixed) value = fixed_no_float fixed value
  item_no_float text value = or_null_all (λ d. has_float d ≡ false) (λ chars. quoted (encode_utf8_all chars)) (as_text value) refl (λ chars. refl)
  item_no_float binary value = or_null_all (λ d. has_float d ≡ false) hexadecimal (as_octets value) refl (λ bytes. refl)
  item_no_float (structure layout) value =
      or_null_all (λ d. has_float d ≡ false) (λ values. object (with_fields layout 0 (list_of values) no_members)) (as_members value) refl (λ values. with_fields-no_float layout 0 (list_of values) no_members refl)

  form_no_float : (form : Form) (value : Value) → has_float (form_json form value) ≡ false
  form_no_float (one item) value = item_no_float item value
  form_no_float (each place item) value = list_no_float (item_json item) (item_no_float item) value
  form_no_float (run place fixed) value = list_no_float (fixed_json fixed) (fixed_no_float fixed) value
  form_no_float (perhaps fixed) value = fixed_no_float fixed value

  with_fields-no_float : (layout : Layout) (place : ℕ) (values : List Value) (so_far : Members) → members_have_float so_far ≡ false → members_have_float (with_fields layout place values so_far) ≡ false
  with_fields-no_float no_fields place values so_far none = none
  with_fields-no_float (field name form more) place [] so_far none = none
  with_fields-no_float (field name form more) place (value ∷ values) so_far none =
      let key : List ℕ = encode_utf8_all name in
      let added : Members = with_field key form value so_far in
      with_fields-no_float more (place + 1) values (if is_count place more then so_far else added)
      (unless_no_float (is_count place more) so_far added none (member-no_float key (form_json form value) (word_of key value) so_far (form_no_float form value) none))

pub answer-no_float : (answer : MbimAnswer) → members_have_float (answer_members answer) ≡ false
answer-no_float (Success shape val) =
    with_ending-no_float ending.Success (with_fields (shape_view shape) 0 (list_of (val_view val)) no_members) (with_fields-no_float (shape_view shape) 0 (list_of (val_view val)) no_members refl)
answer-no_float (Failure status) = with_ending-no_float (ending.Denied status) no_members refl
