use Rattle.std.proofs.Common.{◌≡◌, map, replicate}
use Rattle.mbim_fields.specs.View.{value_view}
use Rattle.sim_mbim.specs.Values.{zero}
use Rattle.sim_mbim.proofs.values.zeros.Given as goal

abbrev pub invariant-loop : goal.invariant-loop
invariant-loop l = map value_view l.values.items ≡ replicate l.counter zero
