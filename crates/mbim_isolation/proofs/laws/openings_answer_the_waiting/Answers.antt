use Rattle.mbim_isolation.proofs.Openings.{openings_answer_the_waiting}
use Rattle.mbim_isolation.proofs.laws.openings_answer_the_waiting.Goals as goal

pub returns : goal.returns
returns c = λ s events earlier m r client within coming reply some at opens answers. openings_answer_the_waiting s within events earlier coming m reply r at answers opens client some
