use Rattle.mbim_solo.proofs.Cores.{cores_queue_the_same, steps_are_what_may_come, cores_meet_what_may_come}
use Rattle.mbim_solo.proofs.laws.cores_queue_the_same.Goals as goal

pub returns : goal.returns
returns c = record {
  queues = cores_queue_the_same;
  steps = steps_are_what_may_come;
  meets = cores_meet_what_may_come;
}
