use Rattle.mbim_frame.proofs.Written.{fragment_is_read}
use Rattle.mbim_frame.proofs.laws.fragment_is_read.Goals as goal

pub returns : goal.returns
returns c = fragment_is_read
