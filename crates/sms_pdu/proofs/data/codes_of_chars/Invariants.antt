use Rattle.std.proofs.Common.{◌≡◌, take}
use Rattle.gsm_text.specs.Alphabet.{codes_of}
use Rattle.sms_pdu.proofs.data.codes_of_chars.Given as goal

abbrev pub invariant-loop-char : goal.invariant-loop-char
invariant-loop-char l = l.codes.items ≡ codes_of (take l.char-index l.chars)
