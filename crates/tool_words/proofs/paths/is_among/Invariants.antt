use Rattle.std.proofs.Common.{◌≡◌, false, take}
use Rattle.std.specs.List.{list_any}
use Rattle.tool_words.specs.Paths.{is_same}
use Rattle.tool_words.proofs.paths.is_among.Given as goal

abbrev pub invariant-loop-other : goal.invariant-loop-other
invariant-loop-other l = list_any (is_same l.path) (take l.other-index l.others) ≡ false
