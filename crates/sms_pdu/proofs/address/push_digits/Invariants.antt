use Rattle.std.proofs.Common.{◌≡◌, ◌++◌, take}
use Rattle.sms_pdu.specs.Address.{digits, half_octets}
use Rattle.sms_pdu.proofs.address.push_digits.Given as goal

abbrev pub invariant-loop-k : goal.invariant-loop-k
invariant-loop-k l = l.chars.items ≡ l.fn.chars.items ++ digits (take l.k (half_octets l.octets))
