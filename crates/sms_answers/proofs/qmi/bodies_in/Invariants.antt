use Rattle.std.proofs.Common.{◌≡◌, take, map}
use Rattle.std.specs.List.{flat_map}
use Rattle.qmi_services.specs.Answers.{field_view}
use Rattle.sms_answers.specs.Qmi.{field_body}
use Rattle.sms_answers.proofs.qmi.bodies_in.Given as goal

-- the bodies so far
abbrev pub invariant-loop-field : goal.invariant-loop-field
invariant-loop-field l = l.bodies.items ≡ flat_map field_body (map field_view (take l.field-index l.fields))
