use Rattle.std.proofs.Common.{◌≡◌, ◌++◌, drop, map}
use Rattle.std.specs.List.{flat_map}
use Rattle.message_tables.specs.View.{tlv_view}
use Rattle.named_messages.specs.Described.{tlv_text}
use Rattle.named_messages.proofs.lines.push_tlvs.Given as goal

-- what is left of the lines makes them whole
abbrev pub invariant-loop-tlv : goal.invariant-loop-tlv
invariant-loop-tlv l = l.text ++ flat_map tlv_text (map tlv_view (drop l.tlv-index l.tlvs)) ≡ l.initial.text ++ flat_map tlv_text (map tlv_view l.tlvs)
