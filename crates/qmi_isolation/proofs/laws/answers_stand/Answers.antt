use Rattle.qmi_isolation.proofs.Standing.{answers_stand}
use Rattle.qmi_isolation.proofs.laws.answers_stand.Goals as goal

pub returns : goal.returns
returns c = answers_stand
