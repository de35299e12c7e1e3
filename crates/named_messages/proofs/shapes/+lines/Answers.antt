use Rattle.std.proofs.Common.{rules, sym, ◌∙◌}
use Rattle.qmi_shapes.specs.View.{shape_view}
use Rattle.message_tables.proofs.Weights.{weight_field}
use Rattle.named_messages.proofs.Fields.{fields_more, list_more}
use Rattle.named_messages.proofs.shapes.+lines.Goals as goal

pub push_fields-push_shape-requires : goal.push_fields-push_shape-requires
push_fields-push_shape-requires t c =
    let falls = weight_field c.args.fields.now c.loop-field.field-index c.field-item.result c.loop-field-test.true c.field-item.is in
    search rules

pub push_fields-loop-field-preserved : goal.push_fields-loop-field-preserved
push_fields-loop-field-preserved t c =
    fields_more c.args.indent.now c.args.fields.now c.loop-field.field-index c.field-item.result c.loop-field-test.true c.field-item.is
    _ c.loop-field.text c.push_shape.new.text c.as_str.result.now c.loop-field.invariant c.as_str.ensures c.in_ok-push_shape.ensures

pub push_list-returns : goal.push_list-returns
push_list-returns t c =
    list_more c.args.indent.now c.as_slice.result.now c.args.name.now c.args.text.now c.push_counted-2.new.text c.push_shape.new.text c.args.prefix (shape_view c.args.element.now)
    (sym c.is_byte.ensures ∙ c.if-is_byte.false) (c.as_slice.ensures ∙ c.in_ok-indent.ensures) c.in_ok-push_counted.ensures c.in_ok-push_shape.ensures
