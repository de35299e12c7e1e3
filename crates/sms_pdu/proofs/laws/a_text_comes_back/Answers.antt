use Rattle.sms_pdu.proofs.Returning.{text_comes_back}
use Rattle.sms_pdu.proofs.laws.a_text_comes_back.Goals as goal

pub returns : goal.returns
returns c = text_comes_back
