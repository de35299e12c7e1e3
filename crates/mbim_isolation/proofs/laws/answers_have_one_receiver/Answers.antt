use Rattle.mbim_isolation.proofs.Answers.{answers_have_one_receiver, other_answers_have_none}
use Rattle.mbim_isolation.proofs.laws.answers_have_one_receiver.Goals as goal

pub returns : goal.returns
returns c = record {
  one = λ s events earlier m r within coming reply at client answers. answers_have_one_receiver s within events earlier coming m reply r at answers client;
  none = λ s events earlier m client other some none. other_answers_have_none s events earlier m client some other none;
}
