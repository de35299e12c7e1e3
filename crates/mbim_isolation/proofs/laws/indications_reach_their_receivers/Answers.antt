use Rattle.mbim_isolation.proofs.Indications.{indications_reach_their_receivers}
use Rattle.mbim_isolation.proofs.laws.indications_reach_their_receivers.Goals as goal

pub returns : goal.returns
returns c = λ s m past client is. indications_reach_their_receivers s m past client is
