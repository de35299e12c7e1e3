use Rattle.std.proofs.Common.{◌≡◌, ◌++◌, take}
use Rattle.std.specs.List.{flat_map}
use Rattle.qmicli_print.specs.Texts.{escaped}
use Rattle.qmicli_print.proofs.texts.push_escaped.Given as goal

abbrev pub invariant-loop-byte : goal.invariant-loop-byte
invariant-loop-byte l = l.text ≡ l.initial.text ++ flat_map escaped (take l.byte-index l.octets)
