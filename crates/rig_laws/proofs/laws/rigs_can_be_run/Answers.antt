use Rattle.rig_laws.proofs.Law.{events_may_come, refusals_are_for_shares}
use Rattle.rig_laws.proofs.laws.rigs_can_be_run.Goals as goal

pub returns : goal.returns
returns c = record {
  sound = events_may_come;
  refused = refusals_are_for_shares;
}
