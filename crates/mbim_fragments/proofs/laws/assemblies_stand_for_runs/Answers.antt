use Rattle.mbim_fragments.proofs.Standing.{assemblies_stand_for_runs}
use Rattle.mbim_fragments.proofs.laws.assemblies_stand_for_runs.Goals as goal

pub returns : goal.returns
returns c = assemblies_stand_for_runs
