use Rattle.qmi_shapes.specs.View.{field_view}
use Rattle.qmi_services.specs.View.{field_format_view}
use Rattle.kit_bytes.proofs.Lists.{map-more}
use Rattle.qmi_services.proofs.table.+shape.Goals as goal

pub shape_fields-loop-field-preserved : goal.shape_fields-loop-field-preserved
shape_fields-loop-field-preserved t c =
    rw c.in_ok-push.ensures.items
    (map-more field_view field_format_view c.loop-field.shapes.items c.args.fields.now c.loop-field.field-index _ _ c.loop-field.invariant c.loop-field-test.true c.in_ok-shape_field.ensures)
