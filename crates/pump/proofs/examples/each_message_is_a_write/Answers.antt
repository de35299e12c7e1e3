use Rattle.std.proofs.Common.{refl}
use Rattle.framing.specs.Cutting.{cut_from}
use Rattle.pump.specs.Writes.{writes_from}
use Rattle.pump.proofs.examples.each_message_is_a_write.Goals as goal

pub returns : goal.returns
unfolding cut_from writes_from
returns c = record { one = refl; two = refl; later = refl }
