use Rattle.subscriptions.proofs.Calls.{hidden_merged}
use Rattle.subscriptions.proofs.laws.hidden_clients_dont_count.Goals as goal

pub returns : goal.returns
returns c = λ front behind client hidden. hidden_merged front behind client hidden
