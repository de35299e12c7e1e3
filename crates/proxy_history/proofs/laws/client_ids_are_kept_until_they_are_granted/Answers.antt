use Rattle.proxy_history.proofs.KeptUntil.{kept-exactly}
use Rattle.proxy_history.proofs.laws.client_ids_are_kept_until_they_are_granted.Goals as goal

pub returns : goal.returns
returns c = kept-exactly
