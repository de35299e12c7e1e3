use Rattle.std.proofs.Common.{◌≡◌, map, take}
use Rattle.std.specs.List.{filter_map}
use Rattle.tool_words.specs.Keys.{value_in}
use Rattle.tool_words.specs.Sole.{map_sole, sole}
use Rattle.tool_words.proofs.keys.sole_value.Given as goal

abbrev pub invariant-loop-part : goal.invariant-loop-part
invariant-loop-part l = map_sole (λ value. value.now) l.sole ≡ sole (filter_map (λ part. value_in (map (λ name. name.now) l.names) part.now) (take l.part-index l.parts))
