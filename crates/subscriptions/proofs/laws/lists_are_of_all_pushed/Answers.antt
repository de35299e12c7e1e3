use Rattle.subscriptions.proofs.Covering.{form_pushed}
use Rattle.subscriptions.proofs.laws.lists_are_of_all_pushed.Goals as goal

pub returns : goal.returns
returns c = λ pairs pushed. form_pushed pairs pushed
