use Rattle.std.proofs.Common.{◌≡◌, Some, map, take}
use Rattle.tool_words.specs.Paths.{paths_in}
use Rattle.tool_words.proofs.paths.devices.Given as goal

abbrev pub invariant-loop-text : goal.invariant-loop-text
invariant-loop-text l = paths_in (map (λ text. text.now) (take l.text-index l.texts)) ≡ Some l.paths.items
