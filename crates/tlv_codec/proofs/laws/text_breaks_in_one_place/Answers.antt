use Rattle.tlv_codec.proofs.Texts.{breaks_once}
use Rattle.tlv_codec.proofs.laws.text_breaks_in_one_place.Goals as goal

pub returns : goal.returns
returns c = breaks_once
