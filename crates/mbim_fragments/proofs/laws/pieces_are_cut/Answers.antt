use Rattle.mbim_fragments.proofs.Cutting.{pieces_are_cut}
use Rattle.mbim_fragments.proofs.laws.pieces_are_cut.Goals as goal

pub returns : goal.returns
returns c = pieces_are_cut
