use Rattle.std.proofs.Common.{◌++◌}
use Rattle.connections.proofs.Tables.{told_none}
use Rattle.connections.proofs.connections.Connections.tell.Goals as goal

pub returns-in-None : goal.returns-in-None
returns-in-None g c =
    let all = told_none c.args.self.now c.args.name c.in-None.ensures.place (c.args.head.now ++ c.args.rest.now) in
    record { told = all.0; stays = all.1; regular = c.in-None.ensures.regular }
