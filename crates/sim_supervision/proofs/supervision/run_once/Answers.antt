use Rattle.std.proofs.Common.{◌∙◌}
use Rattle.sim_supervision.proofs.Once.{run_not, run_of}
use Rattle.sim_supervision.proofs.supervision.run_once.Goals as goal

pub returns-in-Ok-clause-run : goal.returns-in-Ok-clause-run
returns-in-Ok-clause-run g c = run_of _ c.in-Ok.child c.in-Ok.ensures.calls c.end_of.result c.end_of.ensures.ended

pub returns-in-Err-clause-run : goal.returns-in-Err-clause-run
returns-in-Err-clause-run g c = run_not _ _ c.start.new.self (c.in-Err.ensures.err ∙ c.none-kids.ensures) c.in-Err.ensures.calls c.stop_all.ensures.stops
