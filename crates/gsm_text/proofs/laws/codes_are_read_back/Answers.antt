use Rattle.gsm_text.proofs.Characters.{reads_back}
use Rattle.gsm_text.proofs.laws.codes_are_read_back.Goals as goal

pub returns : goal.returns
returns c = reads_back
