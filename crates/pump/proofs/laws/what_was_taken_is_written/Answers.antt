use Rattle.pump.proofs.GoesOn.{taken_is_written}
use Rattle.pump.proofs.laws.what_was_taken_is_written.Goals as goal

pub returns : goal.returns
returns c = taken_is_written
