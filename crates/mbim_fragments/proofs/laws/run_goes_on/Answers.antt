use Rattle.mbim_fragments.proofs.Runs.{run_goes_on}
use Rattle.mbim_fragments.proofs.laws.run_goes_on.Goals as goal

pub returns : goal.returns
returns c = run_goes_on
