use Rattle.pump.proofs.GoesOn.{read_is_sent}
use Rattle.pump.proofs.laws.what_was_read_is_sent.Goals as goal

pub returns : goal.returns
returns c = read_is_sent
