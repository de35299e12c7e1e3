use Rattle.std.proofs.Common.{rules, ap, ◌∙◌}
use Rattle.kit_bytes.proofs.Lists.{map-more}
use Rattle.qmi_shapes.specs.View.{field_view}
use Rattle.message_tables.proofs.Weights.{weight_field, view-same}
use Rattle.message_tables.proofs.copies.+copies.Goals as goal

pub copy_fields-copy_shape-requires : goal.copy_fields-copy_shape-requires
copy_fields-copy_shape-requires t c =
    let falls = weight_field c.args.fields.now c.loop-field.field-index c.field-item.result c.loop-field-test.true c.field-item.is in
    search rules

pub copy_fields-loop-field-preserved : goal.copy_fields-loop-field-preserved
copy_fields-loop-field-preserved t c =
    rw c.in_ok-push.ensures.items
    (map-more field_view field_view c.loop-field.copies.items c.args.fields.now c.loop-field.field-index _ c.field-item.result c.loop-field.invariant c.loop-field-test.true
    (view-same c.field-item.result c.in_ok-name.name c.in_ok-shape.shape c.in_ok-name.ensures c.in_ok-shape.ensures ∙ ap field_view c.field-item.is))
