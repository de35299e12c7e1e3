use Rattle.std.proofs.Common.{◌≡◌, ℕ, List, [], ◌∷◌, Some, map, codes, refl, ap, ◌∙◌}
use Rattle.std.specs.Str.{chars}
use Rattle.qmi_shapes.specs.Form.{unsigned}
use Rattle.qmi_shapes.specs.View.{fields_of, field_view, fields_view}
use Rattle.qmi_shapes.specs.declared.shape.Shape.{Seq}
use Rattle.qmi_shapes.specs.declared.shape.ShapeField.{ShapeField}
use Rattle.qmi_shapes.specs.declared.shape.ShapeFields.{ShapeFields}
use Rattle.qmi_shapes.proofs.Views.{view-Seq}
use Rattle.message_tables.specs.Definitions.{operation_result}
use Rattle.message_tables.specs.View.{definition_view}
use Rattle.message_tables.proofs.definitions.Definition.operation_result.Goals as goal

viewed : (name : List ℕ) (fields : ShapeFields) (status code : ShapeField) → name ≡ chars (codes "Result") → fields_view fields ≡ fields_of (map field_view (status ∷ code ∷ []))
    → field_view status ≡ record { name = chars (codes "Error Status"); form = unsigned 2 } → field_view code ≡ record { name = chars (codes "Error Code"); form = unsigned 2 }
    → definition_view (record { name = Some name; id = Some 2; shape = Seq fields }) ≡ operation_result
unfolding chars
viewed name fields status code named all first second = rw (view-Seq fields, named, all, first, second) refl

pub returns : goal.returns
returns c = viewed c.in_ok-name.name c.from.result c.in_ok-status.status c.in_ok-code.code c.in_ok-name.ensures (c.from.ensures ∙ ap (λ fs. fields_of (map field_view fs)) c.in_ok-fields.ensures.items) c.in_ok-status.ensures c.in_ok-code.ensures
