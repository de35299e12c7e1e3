use Rattle.kit_io.proofs.Growth.{Grows-append}
use Rattle.watched_link.proofs.watched.Watched.note_failed.Goals as goal

pub returns-clause-notes : goal.returns-clause-notes
returns-clause-notes g c = (_, Grows-append c.call.ensures c.said.ensures)
