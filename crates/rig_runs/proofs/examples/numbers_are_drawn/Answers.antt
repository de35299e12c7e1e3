use Rattle.std.proofs.Common.{refl}
use Rattle.rig_runs.proofs.Computed.{computed}
use Rattle.rig_runs.proofs.examples.numbers_are_drawn.Goals as goal

pub returns : goal.returns
unfolding computed
returns c = record { of_0 = refl; of_7 = refl; of_40 = refl }
