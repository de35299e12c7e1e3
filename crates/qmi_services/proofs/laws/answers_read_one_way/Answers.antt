use Rattle.qmi_services.proofs.OneWay.{one_way}
use Rattle.qmi_services.proofs.laws.answers_read_one_way.Goals as goal

pub returns : goal.returns
returns c = one_way
