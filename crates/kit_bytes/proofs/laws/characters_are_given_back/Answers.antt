use Rattle.kit_bytes.proofs.RoundTrips.{reads_written}
use Rattle.kit_bytes.proofs.laws.characters_are_given_back.Goals as goal

pub returns : goal.returns
returns c = reads_written
