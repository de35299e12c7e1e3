use Rattle.mbim_fragments.proofs.Pieces.{pieces_give_the_body}
use Rattle.mbim_fragments.proofs.laws.pieces_give_the_body.Goals as goal

pub returns : goal.returns
returns c = pieces_give_the_body
