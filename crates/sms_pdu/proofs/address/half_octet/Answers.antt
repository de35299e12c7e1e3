use Rattle.std.proofs.Common.{arith}
use Rattle.sms_pdu.proofs.Halves.{high_half-at, low_half-at}
use Rattle.sms_pdu.proofs.address.half_octet.Goals as goal

pub returns-then-index-eq0 : goal.returns-then-index-eq0
returns-then-index-eq0 c = rw c.octet-both.ensures (low_half-at c.args.octets.now c.args.index (omega arith))

pub returns-else-index-eq0 : goal.returns-else-index-eq0
returns-else-index-eq0 c = rw c.octet-both.ensures (high_half-at c.args.octets.now c.args.index (omega arith))
