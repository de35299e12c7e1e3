use Rattle.std.proofs.Common.{◌∙◌}
use Rattle.proxy_core.proofs.Meets.{waiting_is}
use Rattle.proxy_core.proofs.serving.CoreProxyCore.waiting_from.Goals as goal

pub returns-clause-place : goal.returns-clause-place
returns-clause-place g c = λ p past kept. c.waiting_from.ensures.place ∙ waiting_is g.P.Protocol.meaning p past c.args.self.now kept c.args.from
