use Rattle.serving_loop.proofs.AsOne.{asked_as_one, next_as_one}
use Rattle.serving_loop.proofs.one.AnyManyProxyCore.next_dropped.Goals as goal

pub returns-clause-next : goal.returns-clause-next
returns-clause-next g c = next_as_one g.C.ProxyCore.face c.args.self.now c.next_dropped.new.self c.next_dropped.result c.next_dropped.ensures.next

pub returns-clause-keeps : goal.returns-clause-keeps
returns-clause-keeps g c = λ p past kept. asked_as_one g.C.ProxyCore.keeps g.C.ProxyCore.face p past _ _ c.next_dropped.result c.next_dropped.ensures.next (λ q held. c.next_dropped.ensures.keeps q _ held) kept
