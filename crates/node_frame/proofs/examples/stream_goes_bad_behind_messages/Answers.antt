use Rattle.std.proofs.Common.{refl}
use Rattle.framing.specs.Cutting.{cut_from}
use Rattle.node_frame.proofs.examples.stream_goes_bad_behind_messages.Goals as goal

pub returns : goal.returns
unfolding cut_from
returns c = record { bad = refl; behind = refl }
