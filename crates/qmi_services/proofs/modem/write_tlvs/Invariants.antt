use Rattle.std.proofs.Common.{◌≡◌, ◌++◌, map, take}
use Rattle.std.specs.Option.{option_map}
use Rattle.tlv_codec.specs.Tlv.{tlv_text}
use Rattle.qmi_values.specs.View.{val_view}
use Rattle.qmi_services.specs.Modem.{output_tlvs}
use Rattle.qmi_services.specs.View.{output_view}
use Rattle.qmi_services.proofs.modem.write_tlvs.Given as goal

-- the TLVs of the outputs so far
abbrev pub invariant-loop-index : goal.invariant-loop-index
invariant-loop-index l = l.out ≡ l.initial.out ++ tlv_text (output_tlvs (map output_view (take l.index l.outputs)) (map (option_map val_view) (take l.index l.values)))
