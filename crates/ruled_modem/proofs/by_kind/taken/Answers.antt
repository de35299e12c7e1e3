use Rattle.std.proofs.Common.{None}
use Rattle.ruled_modem.proofs.Tables.{looked, updated}
use Rattle.ruled_modem.proofs.by_kind.taken.Goals as goal

pub returns-in-Some-clause-taken : goal.returns-in-Some-clause-taken
returns-in-Some-clause-taken g c = looked c.args.kind.now c.args.table.now.entries _ c.in-Some.ensures.value

pub returns-in-Some-clause-others : goal.returns-in-Some-clause-others
returns-in-Some-clause-others g c = λ other. updated c.args.kind.now other c.args.table.now.entries c.swap_remove.new.self.entries None (c.in-Some.ensures.updates.0 other)
