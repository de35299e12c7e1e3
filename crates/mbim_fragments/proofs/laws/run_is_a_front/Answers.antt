use Rattle.mbim_fragments.proofs.Runs.{run_is_a_front}
use Rattle.mbim_fragments.proofs.laws.run_is_a_front.Goals as goal

pub returns : goal.returns
returns c = run_is_a_front
