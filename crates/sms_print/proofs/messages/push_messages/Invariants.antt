use Rattle.std.proofs.Common.{◌≡◌, ◌++◌, take, flat_map}
use Rattle.sms_print.specs.Printed.{message_text, read_ones}
use Rattle.sms_print.proofs.messages.push_messages.Given as goal

-- the messages so far
abbrev pub invariant-loop-body : goal.invariant-loop-body
invariant-loop-body l = (l.text ≡ l.initial.text ++ flat_map message_text (take l.body-index l.bodies)) × (l.pdus.items ≡ read_ones (take l.body-index l.bodies))
