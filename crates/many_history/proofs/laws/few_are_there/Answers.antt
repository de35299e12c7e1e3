use Rattle.many_history.proofs.Few.{few_are_there}
use Rattle.many_history.proofs.laws.few_are_there.Goals as goal

pub returns : goal.returns
returns c = λ start. few_are_there
