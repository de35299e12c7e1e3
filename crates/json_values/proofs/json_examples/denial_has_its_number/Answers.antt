use Rattle.std.proofs.Common.{refl}
use Rattle.json_values.proofs.Computed.{json_computed}
use Rattle.json_values.proofs.json_examples.denial_has_its_number.Goals as goal

pub returns : goal.returns
unfolding json_computed
returns c = refl
