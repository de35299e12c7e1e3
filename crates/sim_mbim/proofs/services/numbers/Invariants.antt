use Rattle.std.proofs.Common.{◌≡◌, map, take}
use Rattle.mbim_fields.specs.Value.{number}
use Rattle.mbim_fields.specs.View.{value_view}
use Rattle.sim_mbim.proofs.services.numbers.Given as goal

abbrev pub invariant-loop-n : goal.invariant-loop-n
invariant-loop-n l = map value_view l.values.items ≡ map number (take l.n-index l.numbers)
