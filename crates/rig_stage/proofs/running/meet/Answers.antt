use Rattle.rig_stage.proofs.Going.{met_one, moved_then}
use Rattle.rig_stage.proofs.running.meet.Goals as goal

pub returns-clause-met : goal.returns-clause-met
returns-clause-met g c = moved_then (met_one _ c.step.ensures.keeps c.step.ensures.runs) c.hang_up.ensures.met
