use Rattle.mbim_frame.proofs.Renumbered.{renumbered_is_the_same}
use Rattle.mbim_frame.proofs.laws.renumbered_is_the_same.Goals as goal

pub returns : goal.returns
returns c = renumbered_is_the_same
