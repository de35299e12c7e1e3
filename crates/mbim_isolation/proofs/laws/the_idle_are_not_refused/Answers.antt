use Rattle.mbim_isolation.proofs.Refusals.{ticks_same, lost_same}
use Rattle.mbim_isolation.proofs.laws.the_idle_are_not_refused.Goals as goal

pub returns : goal.returns
returns c = λ s past client idle. (ticks_same s client past idle, lost_same s client past idle)
