use Rattle.std.proofs.Common.{◌≡◌}
use Rattle.sms_pdu.proofs.messages.chars_of.Given as goal

abbrev pub invariant-loop-char : goal.invariant-loop-char
invariant-loop-char l = l.chars.items ≡ l.yielded
