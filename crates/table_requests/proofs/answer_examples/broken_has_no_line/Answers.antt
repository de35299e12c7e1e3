use Rattle.std.proofs.Common.{refl}
use Rattle.framing.specs.Cutting.{cut_from}
use Rattle.json_values.proofs.Computed.{json_computed}
use Rattle.table_requests.proofs.answer_examples.broken_has_no_line.Goals as goal

pub returns : goal.returns
unfolding json_computed cut_from
returns c = refl
