use Rattle.qmi_values.proofs.Breaking.{broken}
use Rattle.qmi_values.proofs.laws.broken_bytes_spell_nothing.Goals as goal

pub returns : goal.returns
returns c = broken
