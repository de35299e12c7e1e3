use Rattle.mbim_fields.specs.View.{fixed_view, value_view}
use Rattle.print_text.proofs.Elements.{elements-more}
use Rattle.mbimcli_print.specs.Printed.{fixed_text}
use Rattle.mbimcli_print.proofs.print.print_run_elements.Goals as goal

pub loop-index-preserved : goal.loop-index-preserved
loop-index-preserved c =
    elements-more (fixed_text c.args.wording (fixed_view c.args.fixed) c.args.indent.now) value_view c.args.values.now c.loop-index.index c.index-values-index.result c.args.out.now c.loop-index.out c.print_fixed.new.out c.format.result.now c.loop-index-test.true
    c.index-values-index.is c.format.ensures.text c.loop-index.invariant c.in_ok-print_fixed.ensures
