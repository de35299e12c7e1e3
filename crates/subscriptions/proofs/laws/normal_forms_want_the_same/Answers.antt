use Rattle.subscriptions.proofs.Wanting.{normal_wants}
use Rattle.subscriptions.proofs.laws.normal_forms_want_the_same.Goals as goal

pub returns : goal.returns
returns c = λ list uuid cid. normal_wants uuid cid list
