use Rattle.std.proofs.Common.{◌≡◌, length}
use Rattle.gsm_text.specs.Alphabet.{codes_of}
use Rattle.gsm_text.proofs.Characters.{AllHaveCodes}
use Rattle.gsm_text.proofs.codes.codes_of.Given as goal

abbrev pub invariant-loop-char : goal.invariant-loop-char
invariant-loop-char l = record { made : l.codes.items ≡ codes_of l.yielded; index : l.index ≡ length l.yielded; each : AllHaveCodes l.yielded }
