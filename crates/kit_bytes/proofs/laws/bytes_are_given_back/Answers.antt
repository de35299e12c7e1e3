use Rattle.kit_bytes.proofs.RoundTrips.{writes_read}
use Rattle.kit_bytes.proofs.laws.bytes_are_given_back.Goals as goal

pub returns : goal.returns
returns c = writes_read
