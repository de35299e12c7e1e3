use Rattle.hub_io.specs.Events.{event_of}
use Rattle.proxy_core.proofs.Meets.{can_step, all_dropped}
use Rattle.proxy_core.proofs.serving.CoreProxyCore.step.Goals as goal

pub step-requires : goal.step-requires
step-requires g c = can_step g.P.Protocol.meaning _ _ c.requires

pub returns-clause-dropped : goal.returns-clause-dropped
returns-clause-dropped g c = λ p past kept. all_dropped g.P.Protocol.meaning (event_of c.args.event) c.args.self.now c.step.new.self p past kept (c.step.ensures.stands kept.setup past kept.serves kept.stands)
