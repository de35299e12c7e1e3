use Rattle.proxy_history.proofs.GoesOn.{in_use-exactly, pending-exactly}
use Rattle.proxy_history.proofs.laws.requests_go_on_until_they_end.Goals as goal

pub returns : goal.returns
returns c = record { in_use = in_use-exactly; pending = pending-exactly }
