use Rattle.qmi_proxy.proofs.HungUp.{events_hang_up_their_own}
use Rattle.qmi_proxy.proofs.laws.events_hang_up_their_own.Goals as goal

pub returns : goal.returns
returns c = events_hang_up_their_own
