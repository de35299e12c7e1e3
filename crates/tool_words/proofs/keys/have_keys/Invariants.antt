use Rattle.std.proofs.Common.{◌≡◌, map, take, true}
use Rattle.std.specs.List.{list_all}
use Rattle.std.specs.Option.{is_some}
use Rattle.tool_words.specs.Keys.{value_in}
use Rattle.tool_words.proofs.keys.have_keys.Given as goal

abbrev pub invariant-loop-part : goal.invariant-loop-part
invariant-loop-part l = list_all (λ part. is_some (value_in (map (λ name. name.now) l.names) part.now)) (take l.part-index l.parts) ≡ true
