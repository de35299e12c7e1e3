use Rattle.proxy_history.proofs.Holding.{held-exactly, holders_were_granted_last}
use Rattle.proxy_history.proofs.laws.client_ids_are_held_until_they_end.Goals as goal

pub returns : goal.returns
returns c = record { held = held-exactly; holder = holders_were_granted_last }
