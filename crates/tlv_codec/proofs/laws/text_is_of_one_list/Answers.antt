use Rattle.tlv_codec.proofs.Texts.{text_is_of_one}
use Rattle.tlv_codec.proofs.laws.text_is_of_one_list.Goals as goal

pub returns : goal.returns
returns c = text_is_of_one
