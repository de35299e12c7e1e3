use Rattle.tlv_codec.proofs.Texts.{tlvs_of-text}
use Rattle.tlv_codec.proofs.laws.reading_gives_back.Goals as goal

pub returns : goal.returns
returns c = tlvs_of-text
