use Rattle.qmi_isolation.proofs.Refusals.{ticks_same, aborted_same_bytes, lost_same}
use Rattle.qmi_isolation.proofs.laws.the_idle_are_not_refused.Goals as goal

pub returns : goal.returns
returns c = λ s past client idle. (ticks_same s client past idle, aborted_same_bytes s.device client past idle, lost_same s.device client past idle)
