use Rattle.qmi_isolation.proofs.Others.{others_change_nothing}
use Rattle.qmi_isolation.proofs.laws.others_change_nothing.Goals as goal

pub returns : goal.returns
returns c = λ s client event events other. others_change_nothing s client event events other
