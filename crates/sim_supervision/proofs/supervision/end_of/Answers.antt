use Rattle.sim_supervision.proofs.Once.{ended_or_stopped}
use Rattle.sim_supervision.proofs.supervision.end_of.Goals as goal

pub returns-clause-ended : goal.returns-clause-ended
returns-clause-ended g c =
    ended_or_stopped c.args.child c.ended-ended.result c.args.kids c.ended-ended.new.self c.requires c.ended-ended.ensures.ok c.ended-ended.ensures.err c.ended-ended.ensures.calls c.stop_all.ensures.stops
