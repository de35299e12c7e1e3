use Rattle.std.proofs.Common.{arith}
use Rattle.sms_pdu.proofs.Halves.{digits-more, with_digit, without_digit}
use Rattle.sms_pdu.proofs.address.push_digits.Goals as goal
use Rattle.sms_pdu.proofs.address.push_digits.Goals.{then-half-lt15+in_ok-extend_from_slice, else-half-lt15}

pub loop-k-preserved : goal.loop-k-preserved
loop-k-preserved c =
    let half = c.half_octet-half.result in
    let more = digits-more c.args.octets.now c.loop-k.k half (omega arith) c.half_octet-half.ensures in
    elim c.if-half-lt15.branch [
      | then-half-lt15+in_ok-extend_from_slice w ↦ rw w.chars-is (with_digit _ _ _ _ _ half w.if-half-lt15.true w.in_ok-extend_from_slice.ensures.items c.loop-k.invariant more)
      | else-half-lt15 w ↦ rw w.chars-is (without_digit _ _ _ _ half w.if-half-lt15.false c.loop-k.invariant more)
    ]
