use Rattle.subscriptions.proofs.Wanting.{merge_wants}
use Rattle.subscriptions.proofs.laws.merges_want_what_lists_want.Goals as goal

pub returns : goal.returns
returns c = λ lists uuid cid. merge_wants uuid cid lists
