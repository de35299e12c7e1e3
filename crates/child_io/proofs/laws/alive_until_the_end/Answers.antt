use Rattle.child_io.proofs.Started.{until_the_end}
use Rattle.child_io.proofs.laws.alive_until_the_end.Goals as goal

pub returns : goal.returns
returns c = until_the_end
