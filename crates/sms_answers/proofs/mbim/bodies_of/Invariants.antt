use Rattle.std.proofs.Common.{◌≡◌, take, map}
use Rattle.std.specs.List.{flat_map}
use Rattle.mbim_fields.specs.View.{value_view}
use Rattle.sms_answers.specs.Mbim.{body_of}
use Rattle.sms_answers.proofs.mbim.bodies_of.Given as goal

-- the bodies so far
abbrev pub invariant-loop-message : goal.invariant-loop-message
invariant-loop-message l = l.bodies.items ≡ flat_map body_of (map value_view (take l.message-index l.messages))
