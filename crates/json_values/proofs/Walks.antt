-- The elements, the fields and the members that are left from a place on.
use Rattle.std.proofs.Common.{◌≡◌, ℕ, suc, ◌+◌, ◌<◌, String, Global, true, false, List, [], ◌∷◌, length, map, drop, get_or, chars, Option, Some, None, Err, rules, refl, ap}
use Rattle.std.specs.List.{list_any}
use Rattle.std.specs.Option.{option_map, option_copied}
use denote.Bor.{Bor}
use Rattle.std.specs.Str.{encode_utf8_all}
use Rattle.serde_json.specs.Data.{Data, Items, Members, member}
use Rattle.serde_json.specs.Events.{items_len, members_len}
use Rattle.serde_json.specs.Find.{get}
use Rattle.serde_json.specs.View.{view, items_view, members_view}
use Rattle.serde_json.specs.declared.value.Value as json
use Rattle.qmi_shapes.specs.View.{fields_of, field_view}
use Rattle.qmi_shapes.specs.declared.shape.ShapeField.{ShapeField}
use Rattle.qmi_shapes.specs.Form.{Fields}
use Rattle.qmi_shapes.specs.declared.shape.Prefix.{Prefix}
use Rattle.qmi_values.specs.Value.{Value, elements, members, values_of}
use Rattle.qmi_values.specs.View.{val_view, vals_view}
use Rattle.qmi_values.specs.declared.val.Val.{Seq, the_lemmas}
use Rattle.qmi_values.specs.declared.val.Vals.{Vals}
use Rattle.tlv_values.specs.Spelling.{count_fits}
use Rattle.message_tables.proofs.Lists.{drop_item}
use Rattle.json_values.specs.declared.path.Step.TheVariants.{Member, Element}
use Rattle.json_values.specs.Paths.{Fitting, fitting_as, both, under}
use Rattle.json_values.specs.Given.{is_named, first_other, names_of, named_by, elements_by, list_by, sequence_by, given, fields_given}
use Rattle.json_values.proofs.Continued.{with_first}

pub next_element : (read : Data → Fitting Value) (items : List json.Value) (i : ℕ) (one : json.Value) → i < length items → one ≡ get_or items i one
    → elements_by read i (items_view (drop i items)) ≡ both with_first (under (Element i) (read (view one))) (elements_by read (i + 1) (items_view (drop (i + 1) items)))
next_element read items i one within is = ap (λ (l : List json.Value). elements_by read i (items_view l)) (drop_item items i one within is)

pub next_field : (fields : List ShapeField) (json : Data) (i : ℕ) (field : ShapeField) → i < length fields → field ≡ get_or fields i field
    → fields_given (fields_of (map field_view (drop i fields))) json
    ≡ both with_first (named_by (field_view field).name (given (field_view field).form) (get (encode_utf8_all (field_view field).name) json)) (fields_given (fields_of (map field_view (drop (i + 1) fields))) json)
next_field fields json i field within is = ap (λ (l : List ShapeField). fields_given (fields_of (map field_view l)) json) (drop_item fields i field within is)

-- what a reference that may be there leads to
pub copied_view : (found : Option (Bor json.Value)) → option_map view (option_copied found) ≡ option_map (λ v. view v.now) found
copied_view None = refl
copied_view (Some v) = refl

-- ---- members ----

pub other_here : (names : List (List ℕ)) (key : List ℕ) (one : Data) (more : Members) → list_any (is_named key) names ≡ false → first_other names (member key one more) ≡ Some key
other_here names key one more none = rw none refl

pub other_later : (names : List (List ℕ)) (key : List ℕ) (one : Data) (more : Members) → list_any (is_named key) names ≡ true → first_other names (member key one more) ≡ first_other names more
other_later names key one more some = rw some refl

pub names_of-fields : (fields : List ShapeField) → names_of (fields_of (map field_view fields)) ≡ map (λ field. (field_view field).name) fields
names_of-fields [] = refl
names_of-fields (field ∷ more) = ap (λ (names : List (List ℕ)). (field_view field).name ∷ names) (names_of-fields more)

pub items_len-is : (items : List json.Value) → items_len (items_view items) ≡ length items
items_len-is [] = refl
items_len-is (one ∷ items) = ap suc (items_len-is items)

pub members_len-is : (entries : List (String Global × json.Value)) → members_len (members_view entries) ≡ length entries
members_len-is [] = refl
members_len-is (entry ∷ entries) = ap suc (members_len-is entries)

-- ---- lists and sequences ----

pub list_misfit : (prefix : Prefix) (items : List json.Value) (found : Option Items) (read : Data → Fitting Value) → Some (items_view items) ≡ found
    → count_fits prefix (length items) ≡ false → list_by prefix found read ≡ Err []
list_misfit prefix items found read is count = rw (← is, items_len-is items, count) refl

pub list_is : (prefix : Prefix) (items : List json.Value) (found : Option Items) (read : Data → Fitting Value) → Some (items_view items) ≡ found
    → count_fits prefix (length items) ≡ true → list_by prefix found read ≡ fitting_as (λ values. elements (values_of values)) (elements_by read 0 (items_view items))
list_is prefix items found read is count = rw (← is, items_len-is items, count) refl

module _ (fields : List ShapeField) (all : Fields) (entries : List (String Global × json.Value)) (found : Option Members) (one : Data)
    (are : fields_of (map field_view fields) ≡ all) (is : Some (members_view entries) ≡ found) where
  pub sequence_other : (key : List ℕ) → Some key ≡ first_other (map (λ field. (field_view field).name) fields) (members_view entries)
      → sequence_by found (names_of all) (fields_given all one) ≡ Err (Member (chars key) ∷ [])
  sequence_other key other = rw (← are, ← is, names_of-fields fields, ← other) refl

  pub sequence_is : None ≡ first_other (map (λ field. (field_view field).name) fields) (members_view entries)
      → sequence_by found (names_of all) (fields_given all one) ≡ fitting_as (λ vs. members (values_of vs)) (fields_given (fields_of (map field_view fields)) one)
  sequence_is none = rw (← are, ← is, names_of-fields fields, ← none) refl

pub view-Seq : (vals : Vals) → val_view (Seq vals) ≡ members (vals_view vals)
view-Seq vals = search (rules, the_lemmas)
