use Rattle.watched_link.proofs.Noting.{called}
use Rattle.watched_link.proofs.watched.WatchedLink.close.Goals as goal

pub returns-clause-calls : goal.returns-clause-calls
returns-clause-calls g c = called _ c.call.ensures
