-- The lines of lists and of fields, one after another.
use Rattle.std.proofs.Common.{◌≡◌, ℕ, ◌+◌, ◌<◌, false, List, ◌++◌, length, map, drop, get_or, codes, encode_utf8_all, refl, sym, ap, ◌∙◌, append_assoc}
use Rattle.print_text.specs.Lines.{line, deeper}
use Rattle.qmi_shapes.specs.declared.shape.Prefix.{Prefix}
use Rattle.qmi_shapes.specs.declared.shape.ShapeField.{ShapeField}
use Rattle.qmi_shapes.specs.Form.{Form, array}
use Rattle.qmi_shapes.specs.View.{NamedForm, fields_of, field_view, shape_view}
use Rattle.qmi_shapes.proofs.Views.{view-field}
use Rattle.message_tables.proofs.Lists.{drop_item}
use Rattle.message_tables.specs.Tlvs.{is_byte}
use Rattle.named_messages.specs.Described.{many, form_text, fields_text}

-- a field's lines, and those of the fields behind it
module _ (indent : List ℕ) (fields : List ShapeField) (i : ℕ) (field : ShapeField) (within : i < length fields) (is : field ≡ get_or fields i field) where
  fields_left : fields_text indent (fields_of (map field_view (drop i fields)))
      ≡ form_text indent (encode_utf8_all field.name) (shape_view field.shape) ++ fields_text indent (fields_of (map field_view (drop (i + 1) fields)))
  fields_left =
      ap (λ (l : List ShapeField). fields_text indent (fields_of (map field_view l))) (drop_item fields i field within is)
      ∙ ap (λ (f : NamedForm). form_text indent (encode_utf8_all f.name) f.form ++ fields_text indent (fields_of (map field_view (drop (i + 1) fields)))) (view-field field)

  pub fields_more : (before now new name : List ℕ) → now ++ fields_text indent (fields_of (map field_view (drop i fields))) ≡ before → name ≡ encode_utf8_all field.name
      → new ≡ now ++ form_text indent name (shape_view field.shape) → new ++ fields_text indent (fields_of (map field_view (drop (i + 1) fields))) ≡ before
  fields_more before now new name so_far named adds =
      let behind : List ℕ = fields_text indent (fields_of (map field_view (drop (i + 1) fields))) in
      ap (λ (l : List ℕ). l ++ behind) adds ∙ append_assoc now (form_text indent name (shape_view field.shape)) behind
      ∙ ap (λ (l : List ℕ). now ++ l) (ap (λ (n : List ℕ). form_text indent n (shape_view field.shape) ++ behind) named ∙ sym fields_left) ∙ so_far

-- a list's lines are those of its elements behind its own
pub list_more : (indent inner name before headed new : List ℕ) (prefix : Prefix) (element : Form) → is_byte element ≡ false → inner ≡ deeper indent
    → headed ≡ before ++ line indent name (codes "list" ++ many prefix (codes " elements")) → new ≡ headed ++ form_text inner (codes "each") element
    → new ≡ before ++ form_text indent name (array prefix element)
list_more indent inner name before headed new prefix element other deep head adds =
    let own : List ℕ = line indent name (codes "list" ++ many prefix (codes " elements")) in
    let lines : form_text indent name (array prefix element) ≡ own ++ form_text (deeper indent) (codes "each") element = rw other refl in
    adds ∙ ap (λ (l : List ℕ). l ++ form_text inner (codes "each") element) head ∙ append_assoc before own (form_text inner (codes "each") element)
    ∙ ap (λ (l : List ℕ). before ++ l) (ap (λ (i : List ℕ). own ++ form_text i (codes "each") element) deep ∙ sym lines)
