use Rattle.std.proofs.Common.{refl}
use Rattle.modem_rules.specs.Values.{answer_rule, data_in, failure_in, fault_rule, has_members, indication_rule, kind_alone, number_in, number_within, when_in}
use Rattle.modem_rules.proofs.examples.silence_is_spelled_out.Goals as goal

pub returns : goal.returns
unfolding answer_rule data_in failure_in fault_rule has_members indication_rule kind_alone number_in number_within when_in
returns c = record { refused = refl; silent = refl; misspelled = refl; another = refl; none = refl }
