use Rattle.std.proofs.Common.{◌≡◌, take, map}
use Rattle.std.specs.List.{flat_map}
use Rattle.qmi_services.specs.Answers.{field_view}
use Rattle.qmicli_print.specs.Answer.{field_text}
use Rattle.qmicli_print.proofs.answer.fields_text.Given as goal

-- the lines so far
abbrev pub invariant-loop-field : goal.invariant-loop-field
invariant-loop-field l = l.text ≡ flat_map field_text (map field_view (take l.field-index l.fields))
