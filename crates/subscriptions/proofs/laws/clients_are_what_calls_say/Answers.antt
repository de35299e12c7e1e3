use Rattle.subscriptions.proofs.Calls.{client_is}
use Rattle.subscriptions.proofs.laws.clients_are_what_calls_say.Goals as goal

pub returns : goal.returns
returns c = λ calls conn. client_is conn calls
