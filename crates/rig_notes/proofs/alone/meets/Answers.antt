use Rattle.rig_stage.proofs.Going.{moved_then}
use Rattle.rig_notes.proofs.alone.meets.Goals as goal

pub returns-clause-met : goal.returns-clause-met
returns-clause-met g c = moved_then c.meet.ensures.met c.modem_takes.ensures.met
