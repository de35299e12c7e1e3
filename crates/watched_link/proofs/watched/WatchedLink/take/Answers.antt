use Rattle.watched_link.proofs.Noting.{called, failed}
use Rattle.watched_link.proofs.watched.WatchedLink.take.Goals as goal

pub returns-in-Ok-Bytes-clause-calls : goal.returns-in-Ok-Bytes-clause-calls
returns-in-Ok-Bytes-clause-calls g c = called _ c.call.ensures

pub returns-in-Ok-Quiet-clause-calls : goal.returns-in-Ok-Quiet-clause-calls
returns-in-Ok-Quiet-clause-calls g c = called _ c.call-in-Ok-Quiet.ensures

pub returns-in-Ok-End-clause-calls : goal.returns-in-Ok-End-clause-calls
returns-in-Ok-End-clause-calls g c = called _ c.call-in-Ok-End.ensures

pub returns-in-Err-clause-calls : goal.returns-in-Err-clause-calls
returns-in-Err-clause-calls g c = failed _ c.note_failed.ensures.notes
