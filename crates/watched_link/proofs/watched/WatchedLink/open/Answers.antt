use Rattle.watched_link.proofs.Noting.{called, failed}
use Rattle.watched_link.proofs.watched.WatchedLink.open.Goals as goal

pub returns-in-Ok-clause-calls : goal.returns-in-Ok-clause-calls
returns-in-Ok-clause-calls g c = called _ (rw c.opening-made.ensures at c.call.ensures)

pub returns-in-Err-clause-calls : goal.returns-in-Err-clause-calls
returns-in-Err-clause-calls g c = failed _ (rw c.opening-made-in-Err.ensures at c.note_failed.ensures.notes)
