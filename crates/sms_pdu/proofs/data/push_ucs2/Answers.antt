use Rattle.std.proofs.Common.{false, ap, length, arith}
use Rattle.sms_pdu.specs.Parts.{units_of}
use Rattle.sms_pdu.proofs.Pieces.{length-big_endian}
use Rattle.sms_pdu.proofs.data.push_ucs2.Goals as goal

pub overflow_cast-header : goal.overflow_cast-header
overflow_cast-header c =
    let twice = length-big_endian (units_of false c.args.piece.now) in
    let long = ap length c.in_ok-units.ensures in
    omega (arith, twice, long, c.len.ensures)
