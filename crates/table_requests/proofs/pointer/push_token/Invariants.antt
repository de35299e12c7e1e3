use Rattle.std.proofs.Common.{◌≡◌, ◌++◌, take}
use Rattle.std.specs.List.{flat_map}
use Rattle.table_requests.specs.Pointer.{reference_byte}
use Rattle.table_requests.proofs.pointer.push_token.Given as goal

abbrev pub invariant-loop-byte : goal.invariant-loop-byte
invariant-loop-byte l = l.text ≡ l.initial.text ++ flat_map reference_byte (take l.byte-index l.name)
