use Rattle.std.proofs.Common.{Some}
use Rattle.ruled_modem.proofs.Tables.{updated}
use Rattle.ruled_modem.proofs.by_kind.place.Goals as goal

pub returns : goal.returns
returns g c = λ other. updated c.args.kind other c.args.table.now.entries c.insert.new.self.entries (Some c.args.rules) (c.in_ok-insert.ensures.updates.0 other)
