use Rattle.device_core.proofs.Verdicts.{verdicts_are_of_what_is_read}
use Rattle.device_core.proofs.laws.verdicts_are_of_what_is_read.Goals as goal

pub returns : goal.returns
returns c = verdicts_are_of_what_is_read
