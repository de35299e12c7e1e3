use Rattle.sim_serving.proofs.Plain.{asked-all, ended-bad}
use Rattle.sim_serving.proofs.laws.plain_modems_hang_nobody_up.Goals as goal

pub returns : goal.returns
returns c = record { asked = asked-all; ended = ended-bad }
