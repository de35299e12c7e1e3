use Rattle.std.proofs.Common.{refl}
use Rattle.modem_rules.specs.Values.{answer_rule, data_in, failure_in, fault_rule, has_members, indication_rule, kind_alone, number_in, number_within, when_in}
use Rattle.hex.specs.Hex.{decode_pairs}
use Rattle.modem_rules.proofs.examples.late_answers_are_counted.Goals as goal

pub returns : goal.returns
unfolding answer_rule decode_pairs data_in failure_in fault_rule has_members indication_rule kind_alone number_in number_within when_in
returns c = record { late = refl; at_once = refl; ten_years = refl; more = refl; refused = refl; ended = refl }
