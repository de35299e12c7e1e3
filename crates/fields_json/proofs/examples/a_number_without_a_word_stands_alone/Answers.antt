use Rattle.std.proofs.Common.{refl}
use Rattle.fields_json.proofs.Computed.{line_computed}
use Rattle.fields_json.proofs.examples.a_number_without_a_word_stands_alone.Goals as goal

pub returns : goal.returns
unfolding line_computed
returns c = refl
