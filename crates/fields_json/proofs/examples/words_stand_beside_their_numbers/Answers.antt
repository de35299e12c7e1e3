use Rattle.std.proofs.Common.{refl}
use Rattle.fields_json.proofs.Computed.{line_computed}
use Rattle.fields_json.proofs.examples.words_stand_beside_their_numbers.Goals as goal

pub returns : goal.returns
unfolding line_computed
returns c = refl
