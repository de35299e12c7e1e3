use Rattle.sim_qmi.proofs.Lacking.{only_input}
use Rattle.sim_qmi.proofs.laws.only_the_input_is_missed.Goals as goal

pub returns : goal.returns
returns c = only_input
