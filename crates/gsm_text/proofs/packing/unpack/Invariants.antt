use Rattle.gsm_text.proofs.Digits.{IsUnpacked}
use Rattle.gsm_text.proofs.packing.unpack.Given as goal

abbrev pub invariant-loop-k : goal.invariant-loop-k
invariant-loop-k l = IsUnpacked l.bytes l.fill l.count l.k l.codes.items
