use Rattle.proxy_history.specs.Orderly.{Anything}
use Rattle.many_state.proofs.Stays.{all_stay_there}
use Rattle.many_state.proofs.laws.all_stay_where_nobody_is_moved.Goals as goal

pub returns : goal.returns
returns c = λ start. λ s k h H P O event events x may stands moves. all_stay_there s k h H P (λ d. Anything) O event events x may stands moves
