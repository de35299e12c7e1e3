use Rattle.std.proofs.Common.{◌≡◌, ◌++◌, drop, string_bytes}
use Rattle.std.specs.Str.{encode_utf8_all}
use Rattle.gsm_text.specs.Alphabet.{chars_of}
use Rattle.gsm_text.proofs.Characters.{chars_after}
use Rattle.gsm_text.proofs.codes.text_of_codes.Given as goal

abbrev pub invariant-loop-code : goal.invariant-loop-code
invariant-loop-code l = encode_utf8_all (chars_of l.codes) ≡ string_bytes l.text ++ encode_utf8_all (chars_after l.escaped (drop l.code-index l.codes))
