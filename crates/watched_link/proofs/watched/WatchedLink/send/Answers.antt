use Rattle.std.proofs.Common.{[], false, refl}
use Rattle.link_io.specs.Calls.{Sent}
use Rattle.watched_link.proofs.Noting.{called, failed}
use Rattle.watched_link.proofs.watched.WatchedLink.send.Goals as goal

pub returns-in-Ok-clause-calls : goal.returns-in-Ok-clause-calls
returns-in-Ok-clause-calls g c = called _ c.call.ensures

-- nobody knows how much was sent
pub returns-in-Err-clause-calls : goal.returns-in-Err-clause-calls
returns-in-Err-clause-calls g c = record { front = []; rest = c.args.bytes.now; whole = refl; grows = failed (Sent [] false) c.note_failed.ensures.notes }
