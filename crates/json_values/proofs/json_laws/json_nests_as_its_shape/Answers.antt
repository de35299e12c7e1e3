use Rattle.json_values.proofs.Shallow.{nests}
use Rattle.json_values.proofs.json_laws.json_nests_as_its_shape.Goals as goal

pub returns : goal.returns
returns c = nests
