use Rattle.std.proofs.Common.{◌∙◌}
use Rattle.many_served.proofs.Meets.{waiting_is}
use Rattle.many_served.proofs.served.ServedCoreManyProxyCore.waiting_from.Goals as goal

pub returns-clause-place : goal.returns-clause-place
returns-clause-place c = λ p past kept. c.waiting_from.ensures.place ∙ waiting_is p past c.args.self.now.core kept c.args.from
