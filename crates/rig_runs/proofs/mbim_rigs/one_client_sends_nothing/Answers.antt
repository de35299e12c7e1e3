use Rattle.std.proofs.Common.{refl}
use Rattle.rig_runs.proofs.Computed.{computed}
use Rattle.rig_runs.proofs.mbim_rigs.one_client_sends_nothing.Goals as goal

pub returns : goal.returns
unfolding computed
returns c = record { met = refl; alone = refl; lines = refl }
