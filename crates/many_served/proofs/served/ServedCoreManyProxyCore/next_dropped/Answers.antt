use Rattle.many_served.proofs.Meets.{asked_keeps, next_is}
use Rattle.many_served.proofs.served.ServedCoreManyProxyCore.next_dropped.Goals as goal

pub returns-clause-next : goal.returns-clause-next
returns-clause-next c = next_is c.args.self.now _ c.next_dropped.result c.next_dropped.ensures.first c.next_dropped.ensures.asked

pub returns-clause-keeps : goal.returns-clause-keeps
returns-clause-keeps c = λ p past kept. asked_keeps p past c.args.self.now.core _ c.next_dropped.ensures.asked (c.next_dropped.ensures.stands past) kept
