use Rattle.relays.proofs.QmiComputed.{relays}
use Rattle.relays.proofs.qmi.qmi_relays_are_as_written.Goals as goal

pub returns : goal.returns
returns c = relays
