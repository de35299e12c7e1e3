use Rattle.many_io.specs.Events.{event_of}
use Rattle.serving_loop.proofs.Known.{makes_of}
use Rattle.serving_loop.proofs.server.Server.meet.Goals as goal

pub returns-then-not-was_nobody-clause-makes : goal.returns-then-not-was_nobody-clause-makes
returns-then-not-was_nobody-clause-makes g c = makes_of g.met.C.ManyProxyCore.shows (event_of c.args.event) c.args.self.now.core c.step.new.self c.requires.can c.requires.known c.in_ok-step.ensures.keeps

pub returns-else-not-was_nobody-clause-makes : goal.returns-else-not-was_nobody-clause-makes
returns-else-not-was_nobody-clause-makes g c = makes_of g.met.C.ManyProxyCore.shows (event_of c.args.event) c.args.self.now.core c.step.new.self c.requires.can c.requires.known c.in_ok-step.ensures.keeps
