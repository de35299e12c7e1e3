use Rattle.std.proofs.Common.{◌≡◌, ◌++◌, length}
use Rattle.sms_pdu.specs.Reading.{swapped}
use Rattle.sms_pdu.proofs.body.swapped.Given as goal

abbrev pub invariant-loop-left : goal.invariant-loop-left
invariant-loop-left l = swapped l.octets ≡ l.swapped ++ swapped l.left

abbrev pub decreases-loop-left : goal.decreases-loop-left
decreases-loop-left l = length l.left
