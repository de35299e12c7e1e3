use Rattle.kit_bytes.proofs.Spelling.{HasRead-more, HasRead-all}
use Rattle.kit_bytes.proofs.utf16.text_from_utf16.Goals as goal

pub loop-place-preserved : goal.loop-place-preserved
loop-place-preserved c = rw c.in_ok-push.ensures.bytes (HasRead-more _ _ _ _ _ c.in-Some.ensures c.loop-place.invariant)

pub returns : goal.returns
returns c = HasRead-all _ _ _ _ c.loop-place-test.false c.from.ensures c.loop-place.invariant
