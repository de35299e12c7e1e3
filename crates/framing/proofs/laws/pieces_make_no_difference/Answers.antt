use Rattle.framing.proofs.Cuts.{cut-append}
use Rattle.framing.proofs.laws.pieces_make_no_difference.Goals as goal

pub returns : goal.returns
returns g c = cut-append _
