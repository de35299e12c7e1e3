use Rattle.std.proofs.Common.{refl}
use Rattle.modem_rules.specs.Values.{answer_rule, data_in, failure_in, fault_rule, has_members, indication_rule, kind_alone, number_in, number_within, when_in}
use Rattle.hex.specs.Hex.{decode_pairs}
use Rattle.modem_rules.proofs.examples.rules_have_no_other_members.Goals as goal

pub returns : goal.returns
unfolding answer_rule decode_pairs data_in failure_in fault_rule has_members indication_rule kind_alone number_in number_within when_in
returns c = record { answers = refl; without_data = refl; with_another = refl; tells = refl; after_more = refl }
