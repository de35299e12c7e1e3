use Rattle.mbim_session.proofs.Peers.{verdicts_are_of_what_is_read}
use Rattle.mbim_session.proofs.laws.verdicts_are_of_what_is_read.Goals as goal

pub returns : goal.returns
returns c = verdicts_are_of_what_is_read
