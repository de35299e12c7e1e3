use Rattle.std.proofs.Common.{◌∙◌}
use Rattle.many_io.specs.Events.{event_of}
use Rattle.many_served.proofs.Meets.{may_meet, greatest_is, keeps_on, all_dropped}
use Rattle.many_served.proofs.served.ServedCoreManyProxyCore.step.Goals as goal

pub step-requires : goal.step-requires
step-requires c = may_meet (event_of c.args.event) c.args.self.now.core c.requires.may_come

pub returns-clause-keeps : goal.returns-clause-keeps
returns-clause-keeps c = λ p past kept. keeps_on (event_of c.args.event) c.args.self.now.core _ (c.step.ensures.step past kept.stands) p past kept (c.step.ensures.stands past kept.stands)

pub returns-clause-dropped : goal.returns-clause-dropped
returns-clause-dropped c = λ p past kept. all_dropped (event_of c.args.event) c.args.self.now.core _ (c.step.ensures.step past kept.stands) p past kept (c.step.ensures.stands past kept.stands)

pub returns-clause-greatest : goal.returns-clause-greatest
returns-clause-greatest c = c.step.ensures.greatest ∙ greatest_is (event_of c.args.event) c.args.self.now.core c.requires.may_come
