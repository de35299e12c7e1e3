use Rattle.std.proofs.Common.{◌≡◌, ◌<◌, min, length, map, arith}
use Rattle.mbim_fields.specs.View.{layout_of, item_view, field_view, value_view}
use Rattle.mbim_fields.specs.declared.layout.FieldShape.{out-FieldShape}
use Rattle.mbim_fields.proofs.Views.{view-shape}
use Rattle.print_text.proofs.Elements.{elements-more}
use Rattle.mbimcli_print.specs.Printed.{item_text}
use Rattle.mbimcli_print.proofs.Printing.{FieldsPrinted-skip, FieldsPrinted-next, FieldsPrinted-all}
use Rattle.mbimcli_print.proofs.print.+print.Goals as goal

pub print_elements-loop-index-preserved : goal.print_elements-loop-index-preserved
print_elements-loop-index-preserved t c =
    elements-more (item_text c.args.wording (item_view c.args.item.now) c.args.indent.now) value_view c.args.values.now c.loop-index.index c.index-values-index.result c.args.out.now c.loop-index.out c.print_item.new.out c.format.result.now c.loop-index-test.true
    c.index-values-index.is c.format.ensures.text c.loop-index.invariant c.in_ok-print_item.ensures

pub print_fields-loop-index-preserved-then-counts : goal.print_fields-loop-index-preserved-then-counts
print_fields-loop-index-preserved-then-counts t c =
    let fields = (out-FieldShape c.args.shape.now).0.now in
    let in_fields : c.loop-index.index < length fields = omega (arith, c.loop-index-test.true, c.min-index-end.ensures) in
    let in_values : c.loop-index.index < length c.args.values.now = omega (arith, c.loop-index-test.true, c.min-index-end.ensures) in
    FieldsPrinted-skip c.args.wording (layout_of (map field_view fields)) fields c.args.values.now c.loop-index.index c.index-values-index.result c.args.indent.now c.args.out.now c.loop-index.out c.counts.result in_fields in_values
    c.index-values-index.is c.counts.ensures c.if-counts.true c.loop-index.invariant

pub print_fields-loop-index-preserved : goal.print_fields-loop-index-preserved
print_fields-loop-index-preserved t c =
    let fields = (out-FieldShape c.args.shape.now).0.now in
    let in_fields : c.loop-index.index < length fields = omega (arith, c.loop-index-test.true, c.min-index-end.ensures) in
    let in_values : c.loop-index.index < length c.args.values.now = omega (arith, c.loop-index-test.true, c.min-index-end.ensures) in
    FieldsPrinted-next c.args.wording (layout_of (map field_view fields)) fields c.args.values.now c.loop-index.index _ c.index-values-index.result c.args.indent.now c.args.out.now c.loop-index.out c.counts.result c.print_form.new.out
    c.spelled-name.result.now in_fields in_values c.index-values-index.is c.counts.ensures c.if-counts.false c.loop-index.invariant c.spelled-name.ensures c.in_ok-print_form.ensures

pub print_fields-returns : goal.print_fields-returns
print_fields-returns t c =
    let fields = (out-FieldShape c.args.shape.now).0.now in
    let all : c.loop-index.index ≡ min (length fields) (length c.args.values.now) = omega (arith, c.loop-index-test.false, c.loop-index.auto.index-end, c.min-index-end.ensures) in
    rw (view-shape c.args.shape.now) (FieldsPrinted-all c.args.wording (layout_of (map field_view fields)) fields c.args.values.now c.loop-index.index c.args.indent.now c.args.out.now c.loop-index.out all c.loop-index.invariant)
