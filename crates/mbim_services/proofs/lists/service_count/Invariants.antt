use Rattle.std.proofs.Common.{◌≡◌, ◌+◌, ◌≤◌, length}
use Rattle.kit_bytes.specs.Subscriptions.{by_service}
use Rattle.mbim_services.proofs.lists.service_count.Given as goal

abbrev pub decreases-loop-left : goal.decreases-loop-left
decreases-loop-left l = length l.left

abbrev pub invariant-loop-left : goal.invariant-loop-left
invariant-loop-left l = (l.count + length (by_service l.left) ≡ length (by_service l.pairs)) × (l.count + length l.left ≤ length l.pairs)
