use Rattle.gsm_text.proofs.Characters as characters
use Rattle.gsm_text.proofs.laws.codes_are_written.Goals as goal

pub returns : goal.returns
returns c = characters.codes_are_written
