use Rattle.watched_link.proofs.Noting.{called, failed}
use Rattle.watched_link.proofs.watched.WatchedLink.pair.Goals as goal

pub returns-in-Ok-clause-calls : goal.returns-in-Ok-clause-calls
returns-in-Ok-clause-calls g c = called _ c.call.ensures

pub returns-in-Err-clause-calls : goal.returns-in-Err-clause-calls
returns-in-Err-clause-calls g c = failed _ c.note_failed.ensures.notes
