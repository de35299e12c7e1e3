use Rattle.std.proofs.Common.{◌≡◌, ◌+◌, ◌*◌, ◌++◌, drop, map}
use Rattle.qmi_shapes.specs.View.{fields_of, field_view, shape_view}
use Rattle.message_tables.proofs.Weights.{weight, fields_weight}
use Rattle.named_messages.specs.Described.{fields_text}
use Rattle.named_messages.proofs.shapes.+lines.Given as goal

abbrev pub decreases-push_shape : goal.decreases-push_shape
decreases-push_shape l = 2 * weight (shape_view l.shape.now)

abbrev pub decreases-push_list : goal.decreases-push_list
decreases-push_list l = 2 * weight (shape_view l.element.now) + 1

abbrev pub decreases-push_fields : goal.decreases-push_fields
decreases-push_fields l = 2 * fields_weight (fields_of (map field_view l.fields.now))

-- what is left of the lines makes them whole
abbrev pub invariant-push_fields-loop-field : goal.invariant-push_fields-loop-field
invariant-push_fields-loop-field l = l.text ++ fields_text l.indent (fields_of (map field_view (drop l.field-index l.fields))) ≡ l.initial.text ++ fields_text l.indent (fields_of (map field_view l.fields))
