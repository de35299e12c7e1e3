use Rattle.mbim_frame.proofs.ReadBack.{done_is_read}
use Rattle.mbim_frame.proofs.laws.done_is_read.Goals as goal

pub returns : goal.returns
returns c = done_is_read
