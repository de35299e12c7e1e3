use Rattle.subscriptions.proofs.Calls.{merged_short}
use Rattle.subscriptions.proofs.laws.merges_are_short.Goals as goal

pub returns : goal.returns
returns c = λ clients few all. merged_short clients few all
