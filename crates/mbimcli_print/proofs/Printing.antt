-- How the texts of fields come about, field by field.
use Rattle.std.proofs.Common.{◌≡◌, ℕ, zero, suc, ◌+◌, ◌<◌, min, Bool, true, false, ◌||◌, List, [], ◌∷◌, ◌++◌, length, drop, slice_range, get_or, map, chars, refl, sym, ◌∙◌, ap, arith, rules, append_assoc, encode_utf8_all}
use Rattle.std.specs.List.{list_any}
use Rattle.std.proofs.lemmas.List.{append-nil}
use Rattle.std.proofs.lemmas.Slice.{between_to_end}
use Rattle.mbim_fields.specs.Layout.{Layout}
use Rattle.mbim_fields.specs.Value.{Value}
use Rattle.mbim_fields.specs.View.{layout_of, field_view, form_view, value_view}
use Rattle.mbim_fields.specs.declared.layout.Item.{the_lemmas}
use Rattle.mbim_fields.specs.declared.layout.Field.{Field, out-Field}
use Rattle.mbim_fields.specs.declared.value.FieldValue.{FieldValue}
use Rattle.mbim_fields.proofs.Writings.{fields_at, values_at}
use Rattle.print_text.specs.declared.wording.Wording.{Wording}
use Rattle.mbimcli_print.specs.Printed.{is_count, is_counted_by, form_text, fields_text}

pub view-name : (f : Field) → (field_view f).name ≡ chars (out-Field f).0.now
view-name f = search (rules, the_lemmas)

-- ---- fields that count the elements of lists ----

is_count-any : (place : ℕ) (fields : List Field) → is_count place (layout_of (map field_view fields)) ≡ list_any (λ f. is_counted_by place (field_view f).form) fields
is_count-any place [] = refl
is_count-any place (f ∷ fields) = ap (λ (b : Bool). is_counted_by place (field_view f).form || b) (is_count-any place fields)

pub counted : (i : ℕ) (fields : List Field)
    → list_any (λ f. is_counted_by i (field_view f).form) (slice_range fields (i + 1) (length fields)) ≡ is_count i (layout_of (map field_view (drop (i + 1) fields)))
counted i fields = ap (list_any (λ f. is_counted_by i (field_view f).form)) (between_to_end fields (i + 1) (length fields) (omega arith)) ∙ sym (is_count-any i (drop (i + 1) fields))

-- ---- fields: some are printed, and the rest is still to come ----

pub record FieldsPrinted (wording : Wording) (all rest : Layout) (place : ℕ) (indent : List ℕ) (values left : List Value) (before now : List ℕ) : Type 0 where
  pub same : now ++ fields_text wording rest place indent left ≡ before ++ fields_text wording all 0 indent values

module _ (wording : Wording) (all : Layout) (fields : List Field) (values : List FieldValue) (i : ℕ) (d : Field) (value : FieldValue) (indent before now : List ℕ) where
  skip : (result : Bool) → i < length fields → i < length values → value ≡ get_or values i value → result ≡ list_any (λ f. is_counted_by i (field_view f).form) (slice_range fields (i + 1) (length fields)) → result ≡ true
      → FieldsPrinted wording all (layout_of (map field_view (drop i fields))) i indent (map value_view values) (map value_view (drop i values)) before now
      → FieldsPrinted wording all (layout_of (map field_view (drop (i + 1) fields))) (i + 1) indent (map value_view values) (map value_view (drop (i + 1) values)) before now
  skip result in_fields in_values value_is result_is is so =
      let counts = sym (counted i fields) ∙ sym result_is ∙ is in
      record { same = rw (fields_at fields i d in_fields, values_at values i value in_values value_is, counts) at so.same }

  pub FieldsPrinted-next : (result : Bool) (new name : List ℕ) → i < length fields → i < length values → value ≡ get_or values i value
      → result ≡ list_any (λ f. is_counted_by i (field_view f).form) (slice_range fields (i + 1) (length fields)) → result ≡ false
      → FieldsPrinted wording all (layout_of (map field_view (drop i fields))) i indent (map value_view values) (map value_view (drop i values)) before now
      → name ≡ encode_utf8_all (chars (out-Field (get_or fields i d)).0.now) → new ≡ now ++ form_text wording (form_view (out-Field (get_or fields i d)).1) indent name (value_view value)
      → FieldsPrinted wording all (layout_of (map field_view (drop (i + 1) fields))) (i + 1) indent (map value_view values) (map value_view (drop (i + 1) values)) before new
  FieldsPrinted-next result new name in_fields in_values value_is result_is is so name_is new_is =
      let counts = sym (counted i fields) ∙ sym result_is ∙ is in
      let shown : List ℕ = form_text wording (form_view (out-Field (get_or fields i d)).1) indent name (value_view value) in
      let rest : List ℕ = fields_text wording (layout_of (map field_view (drop (i + 1) fields))) (i + 1) indent (map value_view (drop (i + 1) values)) in
      let same = rw (fields_at fields i d in_fields, values_at values i value in_values value_is, counts, view-name (get_or fields i d), ← name_is) at so.same in
      record { same = ap (λ (l : List ℕ). l ++ rest) new_is ∙ append_assoc now shown rest ∙ same }

-- one that counts is passed over
pub FieldsPrinted-skip : (wording : Wording) (all : Layout) (fields : List Field) (values : List FieldValue) (i : ℕ) (value : FieldValue) (indent before now : List ℕ) (result : Bool) → i < length fields → i < length values → value ≡ get_or values i value
    → result ≡ list_any (λ f. is_counted_by i (field_view f).form) (slice_range fields (i + 1) (length fields)) → result ≡ true
    → FieldsPrinted wording all (layout_of (map field_view (drop i fields))) i indent (map value_view values) (map value_view (drop i values)) before now
    → FieldsPrinted wording all (layout_of (map field_view (drop (i + 1) fields))) (i + 1) indent (map value_view values) (map value_view (drop (i + 1) values)) before now
FieldsPrinted-skip wording all [] values i value indent before now result in_fields in_values value_is result_is is so = absurd (omega (arith, in_fields))
FieldsPrinted-skip wording all (f ∷ fields) values i value indent before now result in_fields in_values value_is result_is is so =
    skip wording all (f ∷ fields) values i f value indent before now result in_fields in_values value_is result_is is so

-- fields without a value and values without a field have no text
nothing_left : (wording : Wording) (fields : List Field) (values : List FieldValue) (i place : ℕ) (indent : List ℕ) → i ≡ min (length fields) (length values)
    → fields_text wording (layout_of (map field_view (drop i fields))) place indent (map value_view (drop i values)) ≡ []
nothing_left wording [] values zero place indent is = refl
nothing_left wording [] values (suc i) place indent is = absurd (omega (arith, is))
nothing_left wording (f ∷ fields) [] zero place indent is = refl
nothing_left wording (f ∷ fields) [] (suc i) place indent is = absurd (omega (arith, is))
nothing_left wording (f ∷ fields) (v ∷ values) zero place indent is = absurd (omega (arith, is))
nothing_left wording (f ∷ fields) (v ∷ values) (suc i) place indent is = nothing_left wording fields values i place indent (omega (arith, is))

pub FieldsPrinted-all : (wording : Wording) (all : Layout) (fields : List Field) (values : List FieldValue) (i : ℕ) (indent before now : List ℕ) → i ≡ min (length fields) (length values)
    → FieldsPrinted wording all (layout_of (map field_view (drop i fields))) i indent (map value_view values) (map value_view (drop i values)) before now
    → now ≡ before ++ fields_text wording all 0 indent (map value_view values)
FieldsPrinted-all wording all fields values i indent before now is so =
    sym (append-nil now) ∙ ap (λ (l : List ℕ). now ++ l) (sym (nothing_left wording fields values i i indent is)) ∙ so.same
