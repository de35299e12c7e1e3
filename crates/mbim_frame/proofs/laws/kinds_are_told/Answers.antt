use Rattle.mbim_frame.proofs.Numbered.{kinds_are_told}
use Rattle.mbim_frame.proofs.laws.kinds_are_told.Goals as goal

pub returns : goal.returns
returns c = kinds_are_told
