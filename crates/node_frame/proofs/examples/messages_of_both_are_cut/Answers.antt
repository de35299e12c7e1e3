use Rattle.std.proofs.Common.{refl}
use Rattle.framing.specs.Cutting.{cut_from}
use Rattle.node_frame.proofs.examples.messages_of_both_are_cut.Goals as goal

pub returns : goal.returns
unfolding cut_from
returns c = record { of_qmux = refl; of_mbim = refl; both = refl; other_way = refl }
