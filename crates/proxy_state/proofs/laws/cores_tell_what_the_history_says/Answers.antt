use Rattle.proxy_state.proofs.Waiting.{waiting_are_of_the_history, asking_keeps_standing}
use Rattle.proxy_state.proofs.laws.cores_tell_what_the_history_says.Goals as goal

pub returns-clause-waiting : goal.returns-clause-waiting
returns-clause-waiting g c = λ p. waiting_are_of_the_history _ _ _ p

pub returns-clause-asked : goal.returns-clause-asked
returns-clause-asked g c = λ p. asking_keeps_standing _ _ _ p
