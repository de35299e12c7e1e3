-- The form that a `Shape` stands for: what it is, without the memory that it takes.
use Rattle.std.specs.Prelude.{ℕ, List, [], ◌∷◌}
use Rattle.qmi_shapes.specs.Form.{Form, unsigned, signed, string, array, sequence, Fields, no_fields, field}
use Rattle.qmi_shapes.specs.declared.shape.Shape.{Shape, Shape-F, fold-Shape}
use Rattle.qmi_shapes.specs.declared.shape.Shape.TheOpen.{U, I, Str, List as ListOf, Seq}
use Rattle.qmi_shapes.specs.declared.shape.ShapeField.{ShapeField, ShapeField-F, fold-ShapeField}
use Rattle.qmi_shapes.specs.declared.shape.ShapeFields.{ShapeFields, ShapeFields-F, fold-ShapeFields}

pub record NamedForm : Type 0 where
  pub name : List ℕ
  pub form : Form

abbrev pub fields_of : List NamedForm → Fields
fields_of [] = no_fields
fields_of (named ∷ more) = field named.name named.form (fields_of more)

-- ---- one level, with what is inside already seen as what it stands for ----

abbrev pub shape_step : Shape-F Form NamedForm Fields → Form
shape_step (U bytes) = unsigned bytes
shape_step (I bytes) = signed bytes
shape_step (Str prefix) = string prefix
shape_step (ListOf prefix element) = array prefix element.value
shape_step (Seq fields) = sequence fields

abbrev pub field_step : ShapeField-F Form NamedForm Fields → NamedForm
field_step f = record { name = f.name; form = f.shape }

abbrev pub fields_step : ShapeFields-F Form NamedForm Fields → Fields
fields_step fs = fields_of fs.fields.items

-- ---- all levels ----

abbrev pub shape_view : Shape → Form
shape_view = fold-Shape Form NamedForm Fields shape_step field_step fields_step

abbrev pub field_view : ShapeField → NamedForm
field_view = fold-ShapeField Form NamedForm Fields shape_step field_step fields_step

abbrev pub fields_view : ShapeFields → Fields
fields_view = fold-ShapeFields Form NamedForm Fields shape_step field_step fields_step
