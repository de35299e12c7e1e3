use Rattle.qmi_isolation.proofs.Answers.{answers_have_one_receiver, own_answers_are_for_nobody, other_answers_have_none}
use Rattle.qmi_isolation.proofs.laws.answers_have_one_receiver.Goals as goal

pub returns : goal.returns
returns c = record {
  one = λ s events earlier m r sound response at answers clients. answers_have_one_receiver s events earlier m response r sound at answers clients;
  own = λ s events earlier m r sound response at answers own. own_answers_are_for_nobody s events earlier m response r sound at answers own;
  none = λ s events earlier m client response none. other_answers_have_none s events earlier m response client none;
}
