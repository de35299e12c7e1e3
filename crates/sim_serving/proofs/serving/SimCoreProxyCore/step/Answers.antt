use Rattle.hub_io.specs.Events.{event_of}
use Rattle.sim_serving.proofs.Steps.{keeps_on, drops_so}
use Rattle.sim_serving.proofs.serving.SimCoreProxyCore.step.Goals as goal

pub returns-clause-keeps : goal.returns-clause-keeps
returns-clause-keeps g c = λ p past kept. keeps_on g.S.Framing.Framing.size g.S.ServedSim.keeps p past c.args.self.now kept (event_of c.args.event) c.step.new.self c.in_ok-step.ensures.stands

pub returns-clause-dropped : goal.returns-clause-dropped
returns-clause-dropped g c = λ p past kept. drops_so g.S.Framing.Framing.size g.S.ServedSim.keeps p past c.args.self.now kept (event_of c.args.event) c.step.new.self c.in_ok-step.ensures.stands
