use Rattle.number_space.proofs.Since.{in_use_exactly}
use Rattle.number_space.proofs.laws.numbers_are_in_use_until_freed.Goals as goal

pub returns : goal.returns
returns g c = in_use_exactly
