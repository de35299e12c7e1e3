use Rattle.qmi_proxy.proofs.Regulars.{histories_are_regular}
use Rattle.qmi_proxy.proofs.laws.histories_are_regular.Goals as goal

pub returns : goal.returns
returns c = histories_are_regular
