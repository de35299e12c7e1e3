use Rattle.std.proofs.Common.{arith}
use Rattle.tlv_codec.proofs.Reading.{HasRead-unread}
use Rattle.tlv_codec.proofs.Looking.{HasLooked-more, HasLooked-found, HasLooked-missing}
use Rattle.tlv_codec.proofs.look.first_of.Goals as goal

pub returns-in_default : goal.returns-in_default
returns-in_default c = HasRead-unread _ _ _ _ c.loop-place-test.true c.in_default.ensures c.loop-place.invariant.read

pub loop-place-preserved : goal.loop-place-preserved
loop-place-preserved c =
    rw (c.or-first.ensures, c.of_kind.ensures) (HasLooked-more _ _ _ _ _ (λ k. omega (arith, c.type_inv.bytes k)) c.in-Ok.ensures c.loop-place.invariant)

pub returns-in-Some : goal.returns-in-Some
returns-in-Some c = HasLooked-found _ _ _ _ c.loop-place-test.false (rw c.in-Some.is at c.loop-place.invariant)

pub returns-in-None : goal.returns-in-None
returns-in-None c = HasLooked-missing _ _ _ c.loop-place-test.false (rw c.in-None.is at c.loop-place.invariant)
