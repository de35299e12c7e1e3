use Rattle.std.proofs.Common.{◌+◌, ◌*◌, ◌≤◌, length}
use Rattle.std.specs.List.{flat_map}
use Rattle.kit_bytes.specs.Subscriptions.{by_service}
use Rattle.mbim_services.specs.SubscribeLists.{structure}
use Rattle.mbim_services.proofs.Runs.{PutsOn}
use Rattle.mbim_services.proofs.lists.put_structures.Given as goal

abbrev pub decreases-loop-left : goal.decreases-loop-left
decreases-loop-left l = length l.left

abbrev pub invariant-loop-left : goal.invariant-loop-left
invariant-loop-left l =
    PutsOn l.at (flat_map structure (by_service l.pairs)) (flat_map structure (by_service l.left)) l.end l.initial.into l.into × (l.end + 24 * length l.left ≤ length l.initial.into) × (length l.left ≤ length l.pairs)
