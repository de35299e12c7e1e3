use Rattle.sim_qmi.proofs.Short.{control_requests_are_answered, requests_are_answered, unknown_ids_are_refused, first_ids_are_one}
use Rattle.sim_qmi.proofs.laws.requests_have_short_answers.Goals as goal

pub returns : goal.returns
returns c = record {
  control = control_requests_are_answered;
  others = requests_are_answered;
  unknown = unknown_ids_are_refused;
  first = first_ids_are_one;
}
