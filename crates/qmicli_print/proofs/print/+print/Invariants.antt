use Rattle.std.proofs.Common.{◌≡◌, ◌+◌, ◌*◌, ◌++◌, map, take}
use Rattle.qmi_shapes.specs.View.{fields_of, shape_view, field_view}
use Rattle.qmi_values.proofs.Depth.{depth, fields_depth}
use Rattle.qmi_values.specs.View.{val_view}
use Rattle.print_text.specs.Lines.{each_text}
use Rattle.qmicli_print.specs.declared.shown.Shown.TheVariants.{Plainly}
use Rattle.qmicli_print.specs.Printed.{titled_text, fields_text}
use Rattle.qmicli_print.proofs.print.+print.Given as goal

abbrev pub invariant-print_elements-loop-index : goal.invariant-print_elements-loop-index
invariant-print_elements-loop-index l = l.out ≡ l.initial.out ++ each_text (titled_text l.wording (shape_view l.element) Plainly l.indent) 1 (map val_view (take l.index l.vals))

abbrev pub invariant-print_fields-loop-index : goal.invariant-print_fields-loop-index
invariant-print_fields-loop-index l = l.out ≡ l.initial.out ++ fields_text l.wording (fields_of (map field_view (take l.index l.fields))) l.indent (map val_view (take l.index l.vals))

abbrev pub decreases-print_value : goal.decreases-print_value
decreases-print_value l = 3 * depth (shape_view l.shape.now)

abbrev pub decreases-print_list : goal.decreases-print_list
decreases-print_list l = 3 * depth (shape_view l.element.now) + 2

abbrev pub decreases-print_elements : goal.decreases-print_elements
decreases-print_elements l = 3 * depth (shape_view l.element.now) + 1

abbrev pub decreases-print_fields : goal.decreases-print_fields
decreases-print_fields l = 3 * fields_depth (fields_of (map field_view l.fields.now)) + 1
