use Rattle.relays.proofs.QmiComputed.{premises_are_met}
use Rattle.relays.proofs.qmi.the_premises_of_qmi_can_be_met.Goals as goal

pub returns : goal.returns
returns c = premises_are_met
