use Rattle.std.proofs.Common.{◌∙◌, sym}
use Rattle.program.proofs.Ends.{link_fault_is, start_fault_is}
use Rattle.program.proofs.tool.print_description.Goals as goal

pub returns-clause-link_fault : goal.returns-clause-link_fault
returns-clause-link_fault g c = λ e. c.describe_file.ensures.link_fault (link_fault_is _ (sym c.from.ensures ∙ e))

pub returns-clause-start_fault : goal.returns-clause-start_fault
returns-clause-start_fault g c = λ e. c.describe_file.ensures.start_fault (start_fault_is _ (sym c.from.ensures ∙ e))
