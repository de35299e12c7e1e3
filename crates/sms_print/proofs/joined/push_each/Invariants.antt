use Rattle.std.proofs.Common.{◌≡◌, ◌++◌, take, flat_map}
use Rattle.sms_print.specs.Printed.{joined_lines}
use Rattle.sms_print.proofs.joined.push_each.Given as goal

-- the messages so far
abbrev pub invariant-loop-one : goal.invariant-loop-one
invariant-loop-one l = l.text ≡ l.initial.text ++ flat_map joined_lines (take l.one-index l.list)
