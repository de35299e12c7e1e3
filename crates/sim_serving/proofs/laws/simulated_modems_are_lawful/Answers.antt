use Rattle.sim_serving.specs.Lawful.{is_lawful}
use Rattle.sim_serving.proofs.laws.simulated_modems_are_lawful.Goals as goal

pub returns : goal.returns
returns c = is_lawful
