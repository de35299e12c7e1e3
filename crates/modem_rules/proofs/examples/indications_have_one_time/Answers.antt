use Rattle.std.proofs.Common.{refl}
use Rattle.modem_rules.specs.Values.{answer_rule, data_in, failure_in, fault_rule, has_members, indication_rule, kind_alone, number_in, number_within, when_in}
use Rattle.hex.specs.Hex.{decode_pairs}
use Rattle.modem_rules.proofs.examples.indications_have_one_time.Goals as goal

pub returns : goal.returns
unfolding answer_rule decode_pairs data_in failure_in fault_rule has_members indication_rule kind_alone number_in number_within when_in
returns c = record { each = refl; never = refl; more = refl; both = refl; neither = refl }
