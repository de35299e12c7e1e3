use Rattle.std.proofs.Common.{◌∙◌}
use Rattle.sim_serving.proofs.Steps.{first_is}
use Rattle.sim_serving.proofs.serving.SimCoreProxyCore.waiting_from.Goals as goal

pub returns-clause-place : goal.returns-clause-place
returns-clause-place g c = λ p past kept. c.waiting_from.ensures.place ∙ first_is g.S.Framing.Framing.size g.S.ServedSim.keeps p past c.args.self.now kept c.args.from
