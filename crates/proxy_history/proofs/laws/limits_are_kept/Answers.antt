use Rattle.proxy_history.proofs.Few.{few_are_present, few_are_in_use}
use Rattle.proxy_history.proofs.laws.limits_are_kept.Goals as goal

pub returns : goal.returns
returns c = record { present = few_are_present; in_use = λ limits facts space sound. few_are_in_use limits facts space sound }
