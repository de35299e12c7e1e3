use Rattle.std.proofs.Common.{refl}
use Rattle.framing.specs.Cutting.{cut_from}
use Rattle.mbim_frame.proofs.examples.stream_is_cut.Goals as goal

pub returns : goal.returns
unfolding cut_from
returns c = refl
