use Rattle.mbim_frame.proofs.Written.{written_is_read}
use Rattle.mbim_frame.proofs.laws.written_is_read.Goals as goal

pub returns : goal.returns
returns c = written_is_read
