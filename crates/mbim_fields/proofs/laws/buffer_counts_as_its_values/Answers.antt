use Rattle.mbim_fields.proofs.Footprints.{values-counted}
use Rattle.mbim_fields.proofs.laws.buffer_counts_as_its_values.Goals as goal

pub returns : goal.returns
returns c = values-counted
