use Rattle.std.proofs.Common.{refl}
use Rattle.rig_runs.proofs.Computed.{computed}
use Rattle.rig_runs.proofs.mbim_rigs.refusals_are_counted.Goals as goal

pub returns : goal.returns
unfolding computed
returns c = record { unopened = refl; full = refl }
