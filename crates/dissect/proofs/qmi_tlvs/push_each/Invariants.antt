use Rattle.std.proofs.Common.{◌≡◌, ◌++◌, take, map}
use Rattle.std.specs.List.{flat_map}
use Rattle.message_tables.specs.View.{tlv_view}
use Rattle.dissect.specs.Places.{entry_at}
use Rattle.dissect.specs.Qmi.{tlv_lines}
use Rattle.dissect.proofs.qmi_tlvs.push_each.Given as goal

-- the lines so far
abbrev pub invariant-loop-tlv : goal.invariant-loop-tlv
invariant-loop-tlv l = l.text ≡ l.initial.text ++ flat_map (tlv_lines l.kind (map tlv_view l.forms)) (map (entry_at l.bytes) (take l.tlv-index l.list))
