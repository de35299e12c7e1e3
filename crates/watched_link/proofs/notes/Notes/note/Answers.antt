use Rattle.std.proofs.Common.{arith, refl}
use Rattle.std.proofs.lemmas.Bool.Decides.{nat_tests}
use Rattle.watched_link.proofs.Noting.{noted_one}
use Rattle.watched_link.proofs.notes.Notes.note.Goals as goal

pub returns : goal.returns
returns c =
    rw (← c.self.view_is)
    (noted_one c.self.inside.whole c.self.inside.log c.note.new.self _ c.self.inside.room c.self.inside.bytes_room _ _ c.note.ensures c.self.invariant.0 c.self.invariant.1
    (grind (arith, nat_tests, c.if-self-eq0.false)) (grind (arith, nat_tests, c.if-bytes-self.false)) refl refl)
