use Rattle.mbim_frame.proofs.ReadBack.{command_is_read}
use Rattle.mbim_frame.proofs.laws.command_is_read.Goals as goal

pub returns : goal.returns
returns c = command_is_read
