-- The fields that are left from a place on.
use Rattle.std.proofs.Common.{◌≡◌, ℕ, zero, suc, ◌+◌, ◌<◌, ◌≤◌, ◌⊎◌, inl, inr, min, Bool, Some, List, [], ◌∷◌, length, map, drop, get_or, encode_utf8_all, refl, sym, ap, ◌∙◌, arith}
use Rattle.std.proofs.lemmas.List.{drop_all}
use Rattle.serde_json.specs.Data.{Data, object, Members, no_members}
use Rattle.message_tables.proofs.Lists.{drop_item}
use Rattle.qmi_shapes.specs.declared.shape.ShapeField.{ShapeField}
use Rattle.qmi_shapes.specs.Form.{Fields, no_fields, field}
use Rattle.qmi_shapes.specs.View.{NamedForm, fields_of, field_view, shape_view}
use Rattle.qmi_shapes.proofs.Views.{view-field}
use Rattle.qmi_values.specs.declared.val.Val.{Val}
use Rattle.qmi_values.specs.Value.{Value, Values, list_of, values_of, elements_in, members_in}
use Rattle.qmi_values.specs.View.{val_view}
use Rattle.qmi_values.proofs.Spellings.{list_of-values_of}
use Rattle.json_values.specs.Showing.{Showing}
use Rattle.json_values.specs.Json.{list_json, or_null, array_json, sequence_json, with_field, with_fields}

next_field : (showing : Showing) (fields : List ShapeField) (items : List Val) (i : ℕ) (one : ShapeField) (item : Val) (so_far : Members)
    → i < length fields → i < length items → one ≡ get_or fields i one → item ≡ get_or items i item
    → with_fields showing (fields_of (map field_view (drop i fields))) (map val_view (drop i items)) so_far
    ≡ with_fields showing (fields_of (map field_view (drop (i + 1) fields))) (map val_view (drop (i + 1) items)) (with_field showing (encode_utf8_all one.name) (shape_view one.shape) (val_view item) so_far)
next_field showing fields items i one item so_far in_fields in_items is item_is =
    ap (λ (l : List ShapeField). with_fields showing (fields_of (map field_view l)) (map val_view (drop i items)) so_far) (drop_item fields i one in_fields is)
    ∙ ap (λ (l : List Val). with_fields showing (fields_of (map field_view (one ∷ drop (i + 1) fields))) (map val_view l) so_far) (drop_item items i item in_items item_is)
    ∙ ap (λ (n : NamedForm). with_fields showing (fields_of (map field_view (drop (i + 1) fields))) (map val_view (drop (i + 1) items)) (with_field showing (encode_utf8_all n.name) n.form (val_view item) so_far)) (view-field one)

-- what a field more gives
pub field_added : (showing : Showing) (fields : List ShapeField) (items : List Val) (i : ℕ) (one : ShapeField) (item : Val) (so_far added whole : Members)
    → i < length fields → i < length items → one ≡ get_or fields i one → item ≡ get_or items i item → added ≡ with_field showing (encode_utf8_all one.name) (shape_view one.shape) (val_view item) so_far
    → with_fields showing (fields_of (map field_view (drop i fields))) (map val_view (drop i items)) so_far ≡ whole
    → with_fields showing (fields_of (map field_view (drop (i + 1) fields))) (map val_view (drop (i + 1) items)) added ≡ whole
field_added showing fields items i one item so_far added whole in_fields in_items is item_is gives before =
    ap (with_fields showing (fields_of (map field_view (drop (i + 1) fields))) (map val_view (drop (i + 1) items))) gives ∙ sym (next_field showing fields items i one item so_far in_fields in_items is item_is) ∙ before

without_values : (showing : Showing) (fields : Fields) (so_far : Members) → with_fields showing fields [] so_far ≡ so_far
without_values showing no_fields so_far = refl
without_values showing (field name form more) so_far = refl

shorter_behind : (a b : ℕ) → (a ≤ b) ⊎ (b ≤ a) → (suc a ≤ suc b) ⊎ (suc b ≤ suc a)
shorter_behind a b (inl less) = inl (omega (arith, less))
shorter_behind a b (inr less) = inr (omega (arith, less))

shorter : (a b : ℕ) → (a ≤ b) ⊎ (b ≤ a)
shorter zero b = inl (omega arith)
shorter (suc a) zero = inr (omega arith)
shorter (suc a) (suc b) = shorter_behind a b (shorter a b)

-- fields without a value and values without a field are left out
pub no_field : (showing : Showing) (fields : List ShapeField) (items : List Val) (i : ℕ) (so_far : Members) → i ≡ min (length fields) (length items)
    → with_fields showing (fields_of (map field_view (drop i fields))) (map val_view (drop i items)) so_far ≡ so_far
no_field showing fields items i so_far all = by (shorter (length fields) (length items))
  where
    by : (length fields ≤ length items) ⊎ (length items ≤ length fields) → with_fields showing (fields_of (map field_view (drop i fields))) (map val_view (drop i items)) so_far ≡ so_far
    by (inl less) = ap (λ (l : List ShapeField). with_fields showing (fields_of (map field_view l)) (map val_view (drop i items)) so_far) (drop_all i fields (omega (arith, all, less)))
    by (inr less) =
        ap (λ (l : List Val). with_fields showing (fields_of (map field_view (drop i fields))) (map val_view l) so_far) (drop_all i items (omega (arith, all, less)))
        ∙ without_values showing (fields_of (map field_view (drop i fields))) so_far

-- ---- lists and sequences ----

listed : (items : List Val) (found : Values) → values_of (map val_view items) ≡ found → list_of found ≡ map val_view items
listed items found are = sym (ap list_of are) ∙ list_of-values_of (map val_view items)

pub list_is : (digits : Bool) (json : Value → Data) (items : List Val) (found : Values) (value : Value) → Some found ≡ elements_in value → values_of (map val_view items) ≡ found
    → list_json digits json (map val_view items) ≡ array_json digits json value
list_is digits json items found value is are =
    ap (list_json digits json) (sym (listed items found are)) ∙ ap (or_null (λ (values : Values). list_json digits json (list_of values))) is

pub sequence_is : (showing : Showing) (fields : List ShapeField) (all : Fields) (items : List Val) (found : Values) (value : Value) → Some found ≡ members_in value → values_of (map val_view items) ≡ found
    → fields_of (map field_view fields) ≡ all
    → object (with_fields showing (fields_of (map field_view fields)) (map val_view items) no_members) ≡ sequence_json (λ values. with_fields showing all values no_members) value
sequence_is showing fields all items found value is are fields_are =
    ap (λ (f : Fields). object (with_fields showing f (map val_view items) no_members)) fields_are
    ∙ ap (λ (l : List Value). object (with_fields showing all l no_members)) (sym (listed items found are))
    ∙ ap (or_null (λ (values : Values). object (with_fields showing all (list_of values) no_members))) is
