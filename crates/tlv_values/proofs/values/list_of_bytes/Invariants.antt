use Rattle.std.proofs.Common.{◌≡◌, map, take}
use Rattle.qmi_values.specs.Value.{number}
use Rattle.qmi_values.specs.View.{val_view}
use Rattle.tlv_values.proofs.values.list_of_bytes.Given as goal

-- the numbers of the bytes so far
abbrev pub invariant-loop-byte : goal.invariant-loop-byte
invariant-loop-byte l = map val_view l.vals.items ≡ map number (take l.byte-index l.bytes)
