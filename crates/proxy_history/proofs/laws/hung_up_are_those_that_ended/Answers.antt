use Rattle.proxy_history.proofs.HungUp.{hung_up_since}
use Rattle.proxy_history.proofs.laws.hung_up_are_those_that_ended.Goals as goal

pub returns : goal.returns
returns c = hung_up_since
