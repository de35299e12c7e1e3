use Rattle.std.proofs.Common.{◌≡◌, ◌++◌, map, take, drop}
use Rattle.mbim_fields.specs.View.{layout_of, item_view, field_view, value_view}
use Rattle.print_text.specs.Lines.{each_text}
use Rattle.mbimcli_print.specs.Printed.{item_text}
use Rattle.mbimcli_print.proofs.Printing.{FieldsPrinted}
use Rattle.mbimcli_print.proofs.print.+print.Given as goal

abbrev pub invariant-print_elements-loop-index : goal.invariant-print_elements-loop-index
invariant-print_elements-loop-index l = l.out ≡ l.initial.out ++ each_text (item_text l.wording (item_view l.item) l.indent) 1 (map value_view (take l.index l.values))

abbrev pub invariant-print_fields-loop-index : goal.invariant-print_fields-loop-index
invariant-print_fields-loop-index l =
    FieldsPrinted l.wording (layout_of (map field_view l.fields)) (layout_of (map field_view (drop l.index l.fields))) l.index l.indent (map value_view l.values) (map value_view (drop l.index l.values)) l.initial.out l.out
