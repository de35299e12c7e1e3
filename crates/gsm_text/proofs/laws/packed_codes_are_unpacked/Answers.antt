use Rattle.gsm_text.proofs.Unpacking.{unpacks_packed}
use Rattle.gsm_text.proofs.laws.packed_codes_are_unpacked.Goals as goal

pub returns : goal.returns
returns c = unpacks_packed
