use Rattle.std.proofs.Common.{◌≡◌, take}
use Rattle.sms_print.specs.Printed.{hex_lines}
use Rattle.sms_print.proofs.lines.hex_lines.Given as goal

-- the bodies so far
abbrev pub invariant-loop-body : goal.invariant-loop-body
invariant-loop-body l = l.text ≡ hex_lines (take l.body-index l.bodies)
