use Rattle.std.proofs.Common.{◌≡◌, ◌++◌, length, map}
use Rattle.sms_pdu.specs.Parts.{half, semi_octets}
use Rattle.sms_pdu.proofs.number.push_semi_octets.Given as goal

abbrev pub invariant-loop-left : goal.invariant-loop-left
invariant-loop-left l = l.octets.items ++ semi_octets (map half l.left) ≡ l.fn.octets.items ++ semi_octets (map half l.digits)

abbrev pub decreases-loop-left : goal.decreases-loop-left
decreases-loop-left l = length l.left
