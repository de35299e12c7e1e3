use Rattle.std.proofs.Common.{arith}
use Rattle.sms_pdu.proofs.Pieces.{AreCounted-next, AreCounted-same}
use Rattle.sms_pdu.proofs.splitting.piece_count.Goals as goal
use Rattle.sms_pdu.proofs.splitting.piece_count.Goals.{then-most-size, else-most-size}

pub loop-char-preserved : goal.loop-char-preserved
loop-char-preserved c =
    let now = c.loop-char.invariant in
    record {
      are = elim c.if-most-size.branch [
        | then-most-size w ↦ rw (w.count-is, w.size-is) (AreCounted-next _ _ _ _ _ _ _ c.size_of-more.result now.are c.loop-char-test.true c.char-item.is c.size_of-more.ensures.size w.if-most-size.true)
        | else-most-size w ↦ rw (w.count-is, w.size-is) (AreCounted-same _ _ _ _ _ _ _ c.size_of-more.result now.are c.loop-char-test.true c.char-item.is c.size_of-more.ensures.size w.if-most-size.false)
      ];
      few = elim c.if-most-size.branch [ then-most-size w ↦ omega arith | else-most-size w ↦ omega arith ];
      room = elim c.if-most-size.branch [ then-most-size w ↦ omega arith | else-most-size w ↦ omega arith ];
    }
