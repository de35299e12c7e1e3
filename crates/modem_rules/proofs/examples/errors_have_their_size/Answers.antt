use Rattle.std.proofs.Common.{refl}
use Rattle.modem_rules.specs.Values.{answer_rule, data_in, failure_in, fault_rule, has_members, indication_rule, kind_alone, number_in, number_within, when_in}
use Rattle.uuid.specs.Text.{by_index}
use Rattle.modem_rules.proofs.examples.errors_have_their_size.Goals as goal

pub returns : goal.returns
unfolding answer_rule by_index data_in failure_in fault_rule has_members indication_rule kind_alone number_in number_within when_in
returns c = record { most = refl; more = refl; status = refl; most_status = refl }
