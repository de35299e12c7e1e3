use Rattle.many_core.proofs.Silent.{silent_before}
use Rattle.many_core.proofs.many.least_waiting.Goals as goal

pub returns : goal.returns
returns c = λ other low. silent_before c.conn_at.result other c.args.first c.args.core.now.state.table.present c.requires.regular.rising c.requires.first c.conn_at.ensures low
