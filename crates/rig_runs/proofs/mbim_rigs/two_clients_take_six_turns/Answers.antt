use Rattle.std.proofs.Common.{refl}
use Rattle.rig_runs.proofs.Computed.{computed}
use Rattle.rig_runs.proofs.mbim_rigs.two_clients_take_six_turns.Goals as goal

pub returns : goal.returns
unfolding computed
returns c = record { met = refl; first = refl; second = refl; lines = refl }
