use Rattle.std.proofs.Common.{◌+◌, length, arith}
use Rattle.sms_pdu.specs.Parts.{units_of}
use Rattle.sms_pdu.proofs.Pieces.{not_le, size-take, size-take-le}
use Rattle.sms_pdu.proofs.splitting.fits.Goals as goal

pub returns-then-most-size : goal.returns-then-most-size
returns-then-most-size c =
    let one = size-take c.args.coded c.args.text.now c.loop-char.char-index c.char-item.result c.loop-char-test.true c.char-item.is in
    let front = size-take-le c.args.coded c.args.text.now (c.loop-char.char-index + 1) in
    not_le (length (units_of c.args.coded c.args.text.now)) c.args.most (omega (arith, one, front, c.loop-char.invariant.size, c.size_of-size.ensures.size))
