use Rattle.std.proofs.Common.{◌≡◌, length, is_some}
use Rattle.mbim_services.specs.SubscribeLists.{numbers_of, pairs_referred}
use Rattle.mbim_services.proofs.events.are_whole.Given as goal

abbrev pub decreases-loop-left : goal.decreases-loop-left
decreases-loop-left l = length l.left

abbrev pub invariant-loop-left : goal.invariant-loop-left
invariant-loop-left l = is_some (pairs_referred l.buffer (numbers_of l.references)) ≡ is_some (pairs_referred l.buffer (numbers_of l.left))
