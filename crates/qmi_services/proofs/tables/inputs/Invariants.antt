use Rattle.std.proofs.Common.{◌≡◌, map, take}
use Rattle.message_tables.specs.View.{tlv_view}
use Rattle.qmi_services.specs.View.{tlv_view as format_tlv_view}
use Rattle.qmi_services.proofs.tables.inputs.Given as goal

abbrev pub invariant-loop-tlv : goal.invariant-loop-tlv
invariant-loop-tlv l = map tlv_view l.shapes.items ≡ map format_tlv_view (take l.tlv-index l.tlvs)
