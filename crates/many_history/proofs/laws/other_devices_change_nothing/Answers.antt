use Rattle.many_history.proofs.There.{unmet_changes_nothing}
use Rattle.many_history.proofs.laws.other_devices_change_nothing.Goals as goal

pub returns : goal.returns
returns c = λ start. λ s event events c d name at none. unmet_changes_nothing s event events c d name at none
