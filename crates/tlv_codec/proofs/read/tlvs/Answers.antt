use Rattle.std.proofs.Common.{arith}
use Rattle.std.proofs.lemmas.Result.{err_from_is_err_and}
use Rattle.tlv_codec.proofs.Reading.{HasRead-more, HasRead-all, HasRead-breaks}
use Rattle.tlv_codec.proofs.read.tlvs.Goals as goal

pub returns-in_err-tlv : goal.returns-in_err-tlv
returns-in_err-tlv c =
    let p = err_from_is_err_and c.from_residual.result c.from_residual.ensures.1 in
    rw (p.1, p.2) (HasRead-breaks _ _ _ _ c.loop-place-test.true c.in_err-tlv.ensures c.loop-place.invariant)

pub loop-place-preserved : goal.loop-place-preserved
loop-place-preserved c =
    rw c.in_ok-push.ensures.items (HasRead-more _ _ _ _ (λ k. omega (arith, c.type_inv.bytes k)) c.in_ok-tlv.ensures c.loop-place.invariant)

pub returns : goal.returns
returns c = rw c.from.ensures (HasRead-all _ _ _ c.loop-place-test.false c.loop-place.invariant)
