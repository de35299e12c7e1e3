use Rattle.std.proofs.Common.{◌∙◌, sym}
use Rattle.program.proofs.Ends.{link_fault_is, read_fault_is, start_fault_is}
use Rattle.program.proofs.tool.submit_text.Goals as goal

pub returns-clause-link_fault : goal.returns-clause-link_fault
returns-clause-link_fault g c = λ e. c.submit.ensures.link_fault (link_fault_is _ (sym c.from.ensures ∙ e))

pub returns-clause-start_fault : goal.returns-clause-start_fault
returns-clause-start_fault g c = λ e. c.submit.ensures.start_fault (start_fault_is _ (sym c.from.ensures ∙ e))

pub returns-clause-read_fault : goal.returns-clause-read_fault
returns-clause-read_fault g c = λ e. c.submit.ensures.read_fault (read_fault_is _ (sym c.from.ensures ∙ e))
