use Rattle.std.proofs.Common.{◌∙◌, sym}
use Rattle.program.proofs.Ends.{link_fault_is, start_fault_is}
use Rattle.program.proofs.tables.follow_on.Goals as goal

-- the modem on the way was followed, and the status tells how that ended
pub returns-clause-follows : goal.returns-clause-follows
returns-clause-follows g c = record { ends = c.follow_modem.result; is = c.follow_modem.ensures.follows; status = c.from.ensures }

pub returns-clause-link_fault : goal.returns-clause-link_fault
returns-clause-link_fault g c = λ e. c.follow_modem.ensures.link_fault (link_fault_is _ (sym c.from.ensures ∙ e))

pub returns-clause-start_fault : goal.returns-clause-start_fault
returns-clause-start_fault g c = λ e. c.follow_modem.ensures.start_fault (start_fault_is _ (sym c.from.ensures ∙ e))
