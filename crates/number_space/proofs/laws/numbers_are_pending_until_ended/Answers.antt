use Rattle.number_space.proofs.Pending.{pending_exactly}
use Rattle.number_space.proofs.laws.numbers_are_pending_until_ended.Goals as goal

pub returns : goal.returns
returns g c = pending_exactly
