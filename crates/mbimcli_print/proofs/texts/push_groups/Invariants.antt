use Rattle.std.proofs.Common.{◌≡◌, ◌++◌, length}
use Rattle.mbimcli_print.specs.Texts.{groups}
use Rattle.mbimcli_print.proofs.texts.push_groups.Given as goal

abbrev pub invariant-loop-rest : goal.invariant-loop-rest
invariant-loop-rest l = l.text ++ groups l.rest ≡ l.initial.text ++ groups l.bytes

abbrev pub decreases-loop-rest : goal.decreases-loop-rest
decreases-loop-rest l = length l.rest
