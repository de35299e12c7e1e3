use Rattle.std.proofs.Common.{refl}
use Rattle.fields_json.proofs.Computed.{line_computed}
use Rattle.fields_json.proofs.examples.an_answer_without_fields_is_ok.Goals as goal

pub returns : goal.returns
unfolding line_computed
returns c = refl
