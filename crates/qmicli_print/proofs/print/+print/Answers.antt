use Rattle.std.proofs.Common.{◌≡◌, ◌++◌, ℕ, length, min, arith, ap, ◌∙◌, List}
use Rattle.qmi_shapes.specs.View.{shape_view, fields_view}
use Rattle.qmi_values.specs.View.{val_view}
use Rattle.qmi_shapes.proofs.Views.{view-List, view-Seq}
use Rattle.print_text.proofs.Elements.{elements-more}
use Rattle.qmicli_print.specs.declared.shown.Shown.TheVariants.{Plainly}
use Rattle.qmicli_print.specs.Printed.{titled_text}
use Rattle.qmicli_print.proofs.Printing.{field_depth, titled_text-list, titled_text-sequence, fields-more, fields_text-all}
use Rattle.qmicli_print.proofs.print.+print.Goals as goal

pub print_elements-loop-index-preserved : goal.print_elements-loop-index-preserved
print_elements-loop-index-preserved t c =
    elements-more (titled_text c.args.wording (shape_view c.args.element.now) Plainly c.args.indent.now) val_view c.args.vals.now c.loop-index.index c.index-vals-index.result c.args.out.now c.loop-index.out c.print_value.new.out c.format.result.now c.loop-index-test.true
    c.index-vals-index.is c.format.ensures.text c.loop-index.invariant c.in_ok-print_value.ensures

pub print_fields-print_value-requires : goal.print_fields-print_value-requires
print_fields-print_value-requires t c =
    let deep = field_depth c.args.fields.now c.loop-index.index c.index-fields-index.result (omega (arith, c.loop-index-test.true, c.min-index-end.ensures)) c.index-fields-index.is in
    omega (arith, deep, c.decreases)

pub print_fields-loop-index-preserved : goal.print_fields-loop-index-preserved
print_fields-loop-index-preserved t c =
    fields-more c.args.wording c.args.indent.now c.args.out.now c.loop-index.out c.print_value.new.out c.args.fields.now c.args.vals.now c.loop-index.index c.index-fields-index.result c.index-vals-index.result c.as_str-name.result.now
    (omega (arith, c.loop-index-test.true, c.min-index-end.ensures)) (omega (arith, c.loop-index-test.true, c.min-index-end.ensures)) c.index-fields-index.is c.index-vals-index.is c.as_str-name.ensures c.loop-index.invariant (rw c.shown_for.ensures at c.in_ok-print_value.ensures)

pub print_fields-returns : goal.print_fields-returns
print_fields-returns t c =
    let all : c.loop-index.index ≡ min (length c.args.fields.now) (length c.args.vals.now) = omega (arith, c.loop-index-test.false, c.loop-index.auto.index-end, c.min-index-end.ensures) in
    c.loop-index.invariant ∙ ap (λ (l : List ℕ). c.args.out.now ++ l) (fields_text-all c.args.wording c.args.fields.now c.args.vals.now c.args.indent.now c.loop-index.index all)

pub print_value-returns-in-Some-as_list : goal.print_value-returns-in-Some-as_list
print_value-returns-in-Some-as_list t c =
    let same =
    titled_text-list c.args.style.wording c.in-List.field-0 (shape_view c.in-List.element.value) c.args.style.shown c.args.indent.now c.args.title.now c.as_slice-in-List.result.now _ (val_view c.args.val.now) c.in-Some-as_list.ensures c.as_slice-in-List.ensures in
    rw (c.in-List.is, view-List c.in-List.field-0 c.in-List.element, same) (rw c.deref.ensures at c.print_list.ensures)

pub print_value-returns-in_ok-indent-in-Seq : goal.print_value-returns-in_ok-indent-in-Seq
print_value-returns-in_ok-indent-in-Seq t c =
    let same =
    titled_text-sequence c.args.style.wording (fields_view c.in-Seq.fields) c.args.style.shown c.args.indent.now c.as_slice-in-Seq.result.now c.args.title.now c.args.out.now c.push_heading.new.out c.as_slice-in-Seq-2.result.now c.as_slice-in-Seq-3.result.now _ (val_view c.args.val.now)
    c.in-Some-as_seq.ensures c.as_slice-in-Seq-3.ensures c.as_slice-in-Seq-2.ensures (c.as_slice-in-Seq.ensures ∙ c.in_ok-indent-in-Seq.ensures) c.in_ok-push_heading-in-Seq.ensures in
    rw (c.in-Seq.is, view-Seq c.in-Seq.fields, same) c.print_fields.ensures
