use Rattle.many_serving.proofs.Lawful.{only_lawful}
use Rattle.many_serving.proofs.one_is_lawful.Goals as goal

pub returns : goal.returns
returns c = only_lawful
