use Rattle.std.proofs.Common.{◌≡◌, None, map, take}
use Rattle.qmi_services.specs.Modem.{input_at}
use Rattle.qmi_services.specs.View.{tlv_view}
use Rattle.qmi_services.proofs.modem.input_at.Given as goal

abbrev pub invariant-loop-input : goal.invariant-loop-input
invariant-loop-input l = input_at l.kind (map tlv_view (take l.input-index l.inputs)) ≡ None
