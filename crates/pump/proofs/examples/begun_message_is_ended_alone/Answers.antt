use Rattle.std.proofs.Common.{refl}
use Rattle.framing.specs.Cutting.{cut_from}
use Rattle.pump.specs.Writes.{writes_from}
use Rattle.pump.proofs.examples.begun_message_is_ended_alone.Goals as goal

pub returns : goal.returns
unfolding cut_from writes_from
returns c = record { begins = refl; ends = refl; goes_on = refl }
