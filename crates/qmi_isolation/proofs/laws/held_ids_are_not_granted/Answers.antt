use Rattle.qmi_isolation.proofs.Answers.{held_ids_are_not_granted}
use Rattle.qmi_isolation.proofs.ClientIds.{held_ids_are_not_used, ids_are_free_when_granted}
use Rattle.qmi_isolation.proofs.laws.held_ids_are_not_granted.Goals as goal

pub returns : goal.returns
returns c = record {
  answers = λ s events earlier m r response at answers clients brings other. held_ids_are_not_granted s events earlier m response r at answers clients brings other;
  free = ids_are_free_when_granted;
  requests = λ s c m past other. held_ids_are_not_used s c m past other;
}
