use Rattle.tlv_codec.proofs.Places.{holds_first}
use Rattle.tlv_codec.proofs.laws.found_is_first_value.Goals as goal

pub returns : goal.returns
returns c = holds_first
