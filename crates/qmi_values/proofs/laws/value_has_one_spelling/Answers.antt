use Rattle.qmi_values.proofs.Spellings.{one_spelling}
use Rattle.qmi_values.proofs.laws.value_has_one_spelling.Goals as goal

pub returns : goal.returns
returns c = one_spelling
