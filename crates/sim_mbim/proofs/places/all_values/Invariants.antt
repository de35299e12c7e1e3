use Rattle.std.proofs.Common.{◌≡◌, ◌+◌, map, take}
use Rattle.mbim_fields.specs.View.{value_view}
use Rattle.sim_mbim.specs.Places.{kept_from}
use Rattle.sim_mbim.proofs.places.all_values.Given as goal

abbrev pub invariant-loop-place : goal.invariant-loop-place
invariant-loop-place g l = (l.index ≡ 1 + l.place-index) × (map value_view l.values.items ≡ map g.T.Kept.value (kept_from 1 (take l.place-index l.places)))
