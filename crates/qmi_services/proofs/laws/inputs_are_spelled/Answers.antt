use Rattle.qmi_services.proofs.Spelled.{spelled}
use Rattle.qmi_services.proofs.laws.inputs_are_spelled.Goals as goal

pub returns : goal.returns
returns c = spelled
