use Rattle.mbim_fragments.proofs.Filling.{pieces_are_filled}
use Rattle.mbim_fragments.proofs.laws.pieces_are_filled.Goals as goal

pub returns : goal.returns
returns c = pieces_are_filled
