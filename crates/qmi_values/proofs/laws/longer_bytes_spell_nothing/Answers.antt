use Rattle.qmi_values.proofs.Breaking.{longer}
use Rattle.qmi_values.proofs.laws.longer_bytes_spell_nothing.Goals as goal

pub returns : goal.returns
returns c = longer
