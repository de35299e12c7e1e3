use Rattle.std.proofs.Common.{◌≡◌, take, map}
use Rattle.qmi_shapes.specs.View.{fields_of, field_view, shape_view}
use Rattle.message_tables.proofs.Weights.{weight, fields_weight}
use Rattle.message_tables.proofs.copies.+copies.Given as goal

abbrev pub decreases-copy_shape : goal.decreases-copy_shape
decreases-copy_shape l = weight (shape_view l.shape.now)

abbrev pub decreases-copy_fields : goal.decreases-copy_fields
decreases-copy_fields l = fields_weight (fields_of (map field_view l.fields.now))

abbrev pub invariant-copy_fields-loop-field : goal.invariant-copy_fields-loop-field
invariant-copy_fields-loop-field l = map field_view l.copies.items ≡ map field_view (take l.field-index l.fields)
