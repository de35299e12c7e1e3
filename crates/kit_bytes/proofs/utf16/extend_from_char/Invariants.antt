use Rattle.std.proofs.Common.{◌≡◌, ◌++◌, take}
use Rattle.std.specs.List.{flat_map}
use Rattle.kit_bytes.specs.Numbers.{u16_bytes}
use Rattle.kit_bytes.proofs.utf16.extend_from_char.Given as goal

abbrev pub invariant-loop-unit : goal.invariant-loop-unit
invariant-loop-unit l = l.octets ≡ l.fn.octets ++ flat_map u16_bytes (take l.unit-index l.unit-items)
