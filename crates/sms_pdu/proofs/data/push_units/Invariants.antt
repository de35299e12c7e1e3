use Rattle.std.proofs.Common.{◌≡◌, ◌++◌, take}
use Rattle.std.specs.List.{flat_map}
use Rattle.sms_pdu.specs.Parts.{big_endian}
use Rattle.sms_pdu.proofs.data.push_units.Given as goal

abbrev pub invariant-loop-unit : goal.invariant-loop-unit
invariant-loop-unit l = l.octets.items ≡ l.fn.octets.items ++ flat_map big_endian (take l.unit-index l.unit-items)
