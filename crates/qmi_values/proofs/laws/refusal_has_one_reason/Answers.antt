use Rattle.qmi_values.proofs.Breaking.{one_fault}
use Rattle.qmi_values.proofs.laws.refusal_has_one_reason.Goals as goal

pub returns : goal.returns
returns c = one_fault
