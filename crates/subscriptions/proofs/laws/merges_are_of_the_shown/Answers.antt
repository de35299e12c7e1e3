use Rattle.subscriptions.proofs.Shown.{merged_wants}
use Rattle.subscriptions.proofs.laws.merges_are_of_the_shown.Goals as goal

pub returns : goal.returns
returns c = λ calls uuid cid. merged_wants calls uuid cid
