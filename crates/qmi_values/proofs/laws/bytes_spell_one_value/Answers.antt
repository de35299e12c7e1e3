use Rattle.qmi_values.proofs.Spellings.{one_value}
use Rattle.qmi_values.proofs.laws.bytes_spell_one_value.Goals as goal

pub returns : goal.returns
returns c = one_value
