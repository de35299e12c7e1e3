use Rattle.std.proofs.Common.{◌≡◌, map, take}
use Rattle.message_tables.specs.View.{tlv_view}
use Rattle.qmi_services.specs.View.{output_view}
use Rattle.qmi_services.proofs.tables.outputs.Given as goal

abbrev pub invariant-loop-output : goal.invariant-loop-output
invariant-loop-output l = map tlv_view l.shapes.items ≡ map (λ output. (output_view output).tlv) (take l.output-index l.outputs)
