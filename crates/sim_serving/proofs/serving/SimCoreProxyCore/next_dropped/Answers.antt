use Rattle.sim_serving.proofs.Steps.{next_is, keeps_asked}
use Rattle.sim_serving.proofs.serving.SimCoreProxyCore.next_dropped.Goals as goal

pub returns-clause-next : goal.returns-clause-next
returns-clause-next g c = next_is g.S.Framing.Framing.size g.S.ServedSim.keeps c.args.self.now c.next_dropped.new.self c.next_dropped.result c.next_dropped.ensures.next c.next_dropped.ensures.asked

pub returns-clause-keeps : goal.returns-clause-keeps
returns-clause-keeps g c = λ p past kept. keeps_asked g.S.Framing.Framing.size g.S.ServedSim.keeps p past c.args.self.now kept c.next_dropped.new.self c.next_dropped.ensures.asked
