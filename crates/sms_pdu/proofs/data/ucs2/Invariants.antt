use Rattle.std.proofs.Common.{◌≡◌, take}
use Rattle.sms_pdu.specs.Parts.{ucs2}
use Rattle.sms_pdu.proofs.data.ucs2.Given as goal

abbrev pub invariant-loop-char : goal.invariant-loop-char
invariant-loop-char l = l.octets.items ≡ ucs2 (take l.char-index l.chars)
