use Rattle.std.proofs.Common.{◌≡◌, ◌++◌, length, map}
use Rattle.mbim_services.specs.SubscribeLists.{numbers_of}
use Rattle.subscribe_lists.specs.Structures.{offsets}
use Rattle.subscribe_lists.proofs.order.bring_in_order.Given as goal

abbrev pub invariant-loop-left : goal.invariant-loop-left
invariant-loop-left l = map (λ it. it.1) l.order.items ++ offsets (numbers_of l.left) ≡ offsets (numbers_of l.references)

abbrev pub decreases-loop-left : goal.decreases-loop-left
decreases-loop-left l = length l.left
