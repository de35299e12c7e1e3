use Rattle.std.proofs.Common.{◌≡◌, take, map}
use Rattle.std.specs.List.{flat_map}
use Rattle.qmi_values.specs.View.{val_view}
use Rattle.sms_answers.specs.Qmi.{octet_of}
use Rattle.sms_answers.proofs.qmi.octets_of.Given as goal

-- the octets so far
abbrev pub invariant-loop-val : goal.invariant-loop-val
invariant-loop-val l = l.octets ≡ flat_map octet_of (map val_view (take l.val-index l.vals))
