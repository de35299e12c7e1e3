use Rattle.std.proofs.Common.{refl}
use Rattle.json_values.proofs.Computed.{json_computed}
use Rattle.json_values.proofs.json_examples.service_has_its_word.Goals as goal

pub returns : goal.returns
unfolding json_computed
returns c = refl
