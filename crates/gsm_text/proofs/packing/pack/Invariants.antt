use Rattle.gsm_text.proofs.Digits.{IsPacked}
use Rattle.gsm_text.proofs.packing.pack.Given as goal

abbrev pub invariant-loop-code : goal.invariant-loop-code
invariant-loop-code l = IsPacked l.codes l.fill l.code-index l.octets.items l.begun l.bits
