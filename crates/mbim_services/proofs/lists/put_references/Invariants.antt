use Rattle.std.proofs.Common.{◌+◌, ◌*◌, ◌≤◌, length}
use Rattle.kit_bytes.specs.Subscriptions.{by_service}
use Rattle.mbim_services.specs.SubscribeLists.{references}
use Rattle.mbim_services.proofs.Runs.{PutsOn}
use Rattle.mbim_services.proofs.lists.put_references.Given as goal

abbrev pub decreases-loop-left : goal.decreases-loop-left
decreases-loop-left l = length l.left

abbrev pub invariant-loop-left : goal.invariant-loop-left
invariant-loop-left l =
    PutsOn l.at (references l.initial.place (by_service l.pairs)) (references l.place (by_service l.left)) l.end l.initial.into l.into × (l.end + 8 * length l.left ≤ length l.initial.into)
    × (l.place + 24 * length l.left ≤ 200000) × (length l.left ≤ length l.pairs)
