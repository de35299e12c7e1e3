use Rattle.sim_serving.proofs.Own.{own_text}
use Rattle.sim_serving.proofs.laws.a_client_gets_its_own_answers.Goals as goal

pub returns : goal.returns
returns c = λ size conduct prompt client past once. own_text size conduct client prompt past once
