use Rattle.std.proofs.Common.{sym, ap}
use Rattle.many_core.proofs.Waits.{wait}
use Rattle.many_core.proofs.many.waits.Goals as goal

pub returns-then-name-least : goal.returns-then-name-least
returns-then-name-least c = sym (ap wait (c.requires c.args.name c.if-name-least.true))
