use Rattle.std.proofs.Common.{map, take}
use Rattle.qmi_services.specs.Answers.{AllSay, field_view}
use Rattle.qmi_services.specs.View.{output_view}
use Rattle.qmi_services.proofs.answers.read_fields.Given as goal

-- the fields of the TLVs so far
abbrev pub invariant-loop-output : goal.invariant-loop-output
invariant-loop-output l = AllSay (map output_view (take l.output-index l.outputs)) l.tlvs (map field_view l.fields.items)
