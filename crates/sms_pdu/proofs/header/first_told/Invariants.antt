use Rattle.std.proofs.Common.{◌≡◌, length}
use Rattle.sms_pdu.specs.Header.{elements, first_told}
use Rattle.sms_pdu.proofs.header.first_told.Given as goal

abbrev pub invariant-loop-left : goal.invariant-loop-left
invariant-loop-left l = first_told (elements l.bytes) ≡ first_told (elements l.left)

abbrev pub decreases-loop-left : goal.decreases-loop-left
decreases-loop-left l = length l.left
