use Rattle.holders.proofs.Since.{held_exactly}
use Rattle.holders.proofs.laws.ids_are_held_until_ended.Goals as goal

pub returns : goal.returns
returns c = held_exactly
