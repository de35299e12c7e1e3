use Rattle.tlv_values.proofs.Spelled.{spelled}
use Rattle.tlv_values.proofs.laws.fitting_values_are_spelled.Goals as goal

pub returns : goal.returns
returns c = spelled
