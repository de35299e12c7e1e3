use Rattle.std.proofs.Common.{sym}
use Rattle.std.proofs.lemmas.Bool.{eq-eqb}
use Rattle.many_cores.proofs.Having.{is_found}
use Rattle.many_core.proofs.many.has_at.Goals as goal

pub returns-then-name-conn_at : goal.returns-then-name-conn_at
returns-then-name-conn_at c = sym (is_found c.args.name c.args.core.now.state.table.present c.args.place c.conn_at.result c.conn_at.ensures (eq-eqb c.args.name c.conn_at.result c.if-name-conn_at.true))
