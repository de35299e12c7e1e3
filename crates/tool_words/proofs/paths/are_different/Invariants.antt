use Rattle.std.proofs.Common.{◌≡◌, drop}
use Rattle.tool_words.specs.Paths.{are_different}
use Rattle.tool_words.proofs.paths.are_different.Given as goal

abbrev pub invariant-loop-index : goal.invariant-loop-index
invariant-loop-index l = are_different (drop l.index l.paths) ≡ are_different l.paths
