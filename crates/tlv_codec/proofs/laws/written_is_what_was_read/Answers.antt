use Rattle.tlv_codec.proofs.Texts.{text_of_read}
use Rattle.tlv_codec.proofs.laws.written_is_what_was_read.Goals as goal

pub returns : goal.returns
returns c = text_of_read
