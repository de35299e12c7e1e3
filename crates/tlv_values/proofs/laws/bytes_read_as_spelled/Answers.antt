use Rattle.tlv_values.proofs.Readings.{read_as_spelled}
use Rattle.tlv_values.proofs.laws.bytes_read_as_spelled.Goals as goal

pub returns : goal.returns
returns c = read_as_spelled
