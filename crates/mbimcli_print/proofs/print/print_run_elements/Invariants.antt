use Rattle.std.proofs.Common.{◌≡◌, ◌++◌, map, take}
use Rattle.mbim_fields.specs.View.{fixed_view, value_view}
use Rattle.print_text.specs.Lines.{each_text}
use Rattle.mbimcli_print.specs.Printed.{fixed_text}
use Rattle.mbimcli_print.proofs.print.print_run_elements.Given as goal

abbrev pub invariant-loop-index : goal.invariant-loop-index
invariant-loop-index l = l.out ≡ l.initial.out ++ each_text (fixed_text l.wording (fixed_view l.fixed) l.indent) 1 (map value_view (take l.index l.values))
