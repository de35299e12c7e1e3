-- How many formats there are in a form, by which copying one ends; and how many stand inside each other.
use Rattle.std.proofs.Common.{◌≡◌, ℕ, zero, suc, ◌+◌, ◌<◌, max, nat_le, ◌&&◌, List, [], ◌∷◌, length, get_or, map, refl, arith}
use Rattle.std.proofs.lemmas.Grind.{common_steps}
use Rattle.qmi_shapes.specs.Form.{Form, unsigned, signed, string, array, sequence, Fields, no_fields, field}
use Rattle.qmi_shapes.specs.View.{fields_of, field_view, shape_view}
use Rattle.qmi_shapes.specs.declared.shape.ShapeField.{ShapeField, out-ShapeField, roll-ShapeField}
use Rattle.qmi_shapes.specs.declared.shape.Shape.{Shape}
use Rattle.qmi_shapes.proofs.Views.{view-field}

abbrev mutual
  pub weight : Form → ℕ
  weight (unsigned bytes) = 1
  weight (signed bytes) = 1
  weight (string prefix) = 1
  weight (array prefix element) = suc (weight element)
  weight (sequence fields) = suc (fields_weight fields)

  pub fields_weight : Fields → ℕ
  fields_weight no_fields = 0
  fields_weight (field name form more) = suc (weight form + fields_weight more)

pub weight_field : (fields : List ShapeField) (i : ℕ) (f : ShapeField) → i < length fields → f ≡ get_or fields i f
    → weight (shape_view (out-ShapeField f).shape) < fields_weight (fields_of (map field_view fields))
weight_field [] i f within is = absurd (omega arith)
weight_field (first ∷ more) zero f within is = rw (is, view-field first) (omega arith)
weight_field (first ∷ more) (suc i) f within is =
    let later = weight_field more i f (omega arith) is in
    omega arith

pub within_both : (a b n : ℕ) → nat_le (max a b) n ≡ (nat_le a n && nat_le b n)
within_both a b n = grind (arith, common_steps)

-- a field of the name and the form of another is the same to a reader
pub view-same : (f : ShapeField) (name : List ℕ) (shape : Shape) → name ≡ (out-ShapeField f).name → shape_view shape ≡ shape_view (out-ShapeField f).shape
    → field_view (roll-ShapeField (record { name = name; shape = shape })) ≡ field_view f
view-same f name shape names shapes = rw (view-field (roll-ShapeField (record { name = name; shape = shape })), view-field f, names, shapes) refl
