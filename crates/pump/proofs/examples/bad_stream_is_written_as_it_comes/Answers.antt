use Rattle.std.proofs.Common.{refl}
use Rattle.framing.specs.Cutting.{cut_from}
use Rattle.pump.specs.Writes.{writes_from}
use Rattle.pump.proofs.examples.bad_stream_is_written_as_it_comes.Goals as goal

pub returns : goal.returns
unfolding cut_from writes_from
returns c = record { turns_bad = refl; stays_bad = refl }
