use Rattle.std.proofs.Common.{◌∙◌, subst, sym}
use Rattle.program.specs.Status.{IsOfCapture}
use Rattle.program.proofs.Ends.{capture_read_fault_is, capture_write_fault_is, is_of_capture}
use Rattle.program.proofs.dissecting.dissect_capture.Goals as goal

pub returns-clause-read_fault : goal.returns-clause-read_fault
returns-clause-read_fault g c = λ e. c.dissect_by_tables.ensures.read_fault (capture_read_fault_is _ (sym c.from.ensures ∙ e))

pub returns-clause-write_fault : goal.returns-clause-write_fault
returns-clause-write_fault g c = λ e. c.dissect_by_tables.ensures.write_fault (capture_write_fault_is _ (sym c.from.ensures ∙ e))

pub returns-clause-link_fault : goal.returns-clause-link_fault
returns-clause-link_fault g c = λ e. subst IsOfCapture (sym c.from.ensures ∙ e) (is_of_capture _)

pub returns-clause-start_fault : goal.returns-clause-start_fault
returns-clause-start_fault g c = λ e. subst IsOfCapture (sym c.from.ensures ∙ e) (is_of_capture _)

pub returns-clause-hub_fault : goal.returns-clause-hub_fault
returns-clause-hub_fault g c = λ e. subst IsOfCapture (sym c.from.ensures ∙ e) (is_of_capture _)
