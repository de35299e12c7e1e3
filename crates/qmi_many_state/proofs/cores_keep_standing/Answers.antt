use Rattle.qmi_many_state.proofs.Cores.{keeps_standing}
use Rattle.qmi_many_state.proofs.cores_keep_standing.Goals as goal

pub returns : goal.returns
returns c = λ paths time_limit release some. keeps_standing paths time_limit release some
