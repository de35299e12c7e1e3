use Rattle.std.proofs.Common.{◌∙◌, subst, sym}
use Rattle.program.specs.Status.{IsOfKeeping}
use Rattle.program.proofs.Ends.{is_of_keeping, keeping_fault_is}
use Rattle.program.proofs.simulator.keep_modem.Goals as goal

pub returns-clause-own : goal.returns-clause-own
returns-clause-own g c = subst IsOfKeeping (sym c.from.ensures) (is_of_keeping _)

pub returns-clause-start_fault : goal.returns-clause-start_fault
returns-clause-start_fault g c = λ e. c.supervise_simulator.ensures.start_fault (keeping_fault_is _ (sym c.from.ensures ∙ e))
