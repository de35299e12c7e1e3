use Rattle.std.proofs.Common.{refl}
use Rattle.framing.specs.Cutting.{cut_from}
use Rattle.node_frame.proofs.examples.message_begun_is_left.Goals as goal

pub returns : goal.returns
unfolding cut_from
returns c = record { two_bytes = refl; type_alone = refl; begun = refl }
