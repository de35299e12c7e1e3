use Rattle.std.proofs.Common.{◌≡◌, length, map, ◌++◌}
use Rattle.kit_bytes.specs.Subscriptions.{by_service}
use Rattle.mbim_fields.specs.View.{value_view}
use Rattle.mbim_services.specs.SubscribeLists.{subscription_value}
use Rattle.sim_mbim.proofs.lists.events_of.Given as goal

abbrev pub decreases-loop-left : goal.decreases-loop-left
decreases-loop-left l = length l.left

abbrev pub invariant-loop-left : goal.invariant-loop-left
invariant-loop-left l = map value_view l.events.items ++ map subscription_value (by_service l.left) ≡ map subscription_value (by_service l.pairs)
