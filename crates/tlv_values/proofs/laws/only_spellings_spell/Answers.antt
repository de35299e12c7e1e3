use Rattle.tlv_values.proofs.Spelled.{only_these}
use Rattle.tlv_values.proofs.laws.only_spellings_spell.Goals as goal

pub returns : goal.returns
returns c = only_these
