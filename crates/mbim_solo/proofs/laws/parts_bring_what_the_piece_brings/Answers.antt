use Rattle.mbim_solo.proofs.Parts.{parts_are_the_piece}
use Rattle.mbim_solo.proofs.laws.parts_bring_what_the_piece_brings.Goals as goal

pub returns : goal.returns
returns c = parts_are_the_piece
