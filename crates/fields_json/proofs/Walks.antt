-- The fields that are left from a place on.
use Rattle.std.proofs.Common.{◌≡◌, ℕ, zero, suc, ◌+◌, ◌<◌, min, Bool, true, false, List, [], ◌∷◌, length, drop, slice_range, get_or, map, chars, refl, sym, ◌∙◌, ap, arith, encode_utf8_all, if◌then◌else◌}
use Rattle.std.specs.List.{list_any}
use Rattle.serde_json.specs.Data.{Members}
use Rattle.mbim_fields.specs.Layout.{Layout, Form, field}
use Rattle.mbim_fields.specs.Value.{Value}
use Rattle.mbim_fields.specs.View.{layout_of, field_view, form_view, value_view}
use Rattle.mbim_fields.specs.declared.layout.Field.{Field, out-Field}
use Rattle.mbim_fields.specs.declared.value.FieldValue.{FieldValue}
use Rattle.mbim_fields.proofs.Writings.{fields_at, values_at}
use Rattle.mbimcli_print.specs.Printed.{is_count, is_counted_by}
use Rattle.mbimcli_print.proofs.Printing.{counted, view-name}
use Rattle.fields_json.specs.Json.{with_field, with_fields}

-- the fields of these from a place on
abbrev layout_from : ℕ → List Field → Layout
layout_from i fields = layout_of (map field_view (drop i fields))

abbrev values_from : ℕ → List FieldValue → List Value
values_from i values = map value_view (drop i values)

-- a field of these is there, and its value
abbrev IsThere : List Field → List FieldValue → ℕ → FieldValue → Type 0
IsThere fields values i value = (i < length fields) × (i < length values) × (value ≡ get_or values i value)

-- it is known whether the field at a place counts
abbrev Counts : List Field → ℕ → Bool → Bool → Type 0
Counts fields i result is = (result ≡ list_any (λ f. is_counted_by i (field_view f).form) (slice_range fields (i + 1) (length fields))) × (result ≡ is)

next_field : (fields : List Field) (values : List FieldValue) (i : ℕ) (d : Field) (value : FieldValue) (so_far : Members) (name : List ℕ) (result is : Bool)
    → IsThere fields values i value → Counts fields i result is → name ≡ encode_utf8_all (chars (out-Field (get_or fields i d)).0.now)
    → with_fields (layout_from i fields) i (values_from i values) so_far
    ≡ with_fields (layout_from (i + 1) fields) (i + 1) (values_from (i + 1) values) (if is then so_far else with_field name (form_view (out-Field (get_or fields i d)).1) (value_view value) so_far)
next_field fields values i d value so_far name result is there counts name_is =
    let known : is_count i (layout_from (i + 1) fields) ≡ is = sym (counted i fields) ∙ sym counts.0 ∙ counts.1 in
    let called : List ℕ = (field_view (get_or fields i d)).name in
    let form : Form = form_view (out-Field (get_or fields i d)).1 in
    let more : Layout = layout_from (i + 1) fields in
    let rest : List Value = values_from (i + 1) values in
    ap (λ (l : Layout). with_fields l i (values_from i values) so_far) (fields_at fields i d there.0)
    ∙ ap (λ (l : List Value). with_fields (field called form more) i l so_far) (values_at values i value there.1 there.2)
    ∙ ap (λ (b : Bool). with_fields more (i + 1) rest (if b then so_far else with_field (encode_utf8_all called) form (value_view value) so_far)) known
    ∙ ap (λ (n : List ℕ). with_fields more (i + 1) rest (if is then so_far else with_field n form (value_view value) so_far)) (ap encode_utf8_all (view-name (get_or fields i d)) ∙ sym name_is)

pub put_field : (fields : List Field) (values : List FieldValue) (i : ℕ) (d : Field) (value : FieldValue) (so_far : Members) (name : List ℕ) (result : Bool)
    → IsThere fields values i value → Counts fields i result false → name ≡ encode_utf8_all (chars (out-Field (get_or fields i d)).0.now)
    → with_fields (layout_from i fields) i (values_from i values) so_far
    ≡ with_fields (layout_from (i + 1) fields) (i + 1) (values_from (i + 1) values) (with_field name (form_view (out-Field (get_or fields i d)).1) (value_view value) so_far)
put_field fields values i d value so_far name result there counts name_is = next_field fields values i d value so_far name result false there counts name_is

-- one that counts is passed over
pub skip_field : (fields : List Field) (values : List FieldValue) (i : ℕ) (value : FieldValue) (so_far : Members) (result : Bool)
    → IsThere fields values i value → Counts fields i result true
    → with_fields (layout_from i fields) i (values_from i values) so_far ≡ with_fields (layout_from (i + 1) fields) (i + 1) (values_from (i + 1) values) so_far
skip_field [] values i value so_far result there counts = let less = there.0 in absurd (omega (arith, less))
skip_field (f ∷ fields) values i value so_far result there counts =
    next_field (f ∷ fields) values i f value so_far (encode_utf8_all (chars (out-Field (get_or (f ∷ fields) i f)).0.now)) result true there counts refl

-- fields without a value and values without a field are left out
pub no_field : (fields : List Field) (values : List FieldValue) (i place : ℕ) (so_far : Members) → i ≡ min (length fields) (length values)
    → with_fields (layout_from i fields) place (values_from i values) so_far ≡ so_far
no_field [] values zero place so_far is = refl
no_field [] values (suc i) place so_far is = absurd (omega (arith, is))
no_field (f ∷ fields) [] zero place so_far is = refl
no_field (f ∷ fields) [] (suc i) place so_far is = absurd (omega (arith, is))
no_field (f ∷ fields) (v ∷ values) zero place so_far is = absurd (omega (arith, is))
no_field (f ∷ fields) (v ∷ values) (suc i) place so_far is = no_field fields values i place so_far (omega (arith, is))
