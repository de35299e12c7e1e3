use Rattle.many_history.proofs.Once.{dropped_bytes}
use Rattle.many_history.proofs.laws.dropped_have_the_bytes_of_their_place.Goals as goal

pub returns : goal.returns
returns c = λ start. λ s events c place sound at. dropped_bytes s c events place sound at
