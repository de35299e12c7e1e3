use Rattle.std.proofs.Common.{◌≡◌, take, string_bytes, encode_utf8_all}
use Rattle.sms_pdu.proofs.texts.text_of.Given as goal

abbrev pub invariant-loop-char : goal.invariant-loop-char
invariant-loop-char l = string_bytes l.text ≡ encode_utf8_all (take l.char-index l.chars)
