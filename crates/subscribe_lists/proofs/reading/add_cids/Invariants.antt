use Rattle.std.proofs.Common.{◌++◌, ◌≤◌, length}
use Rattle.mbim_services.specs.SubscribeLists.{numbers_of}
use Rattle.subscribe_lists.specs.ClientLists.{singles}
use Rattle.subscribe_lists.proofs.Adding.{Adds}
use Rattle.subscribe_lists.proofs.reading.add_cids.Given as goal

abbrev pub invariant-loop-left : goal.invariant-loop-left
invariant-loop-left l = record {
  adds : Adds (singles l.uuid (numbers_of l.bytes) ++ l.fn.into) l.into (singles l.uuid (numbers_of l.left));
  few : length l.into ≤ 30;
}

abbrev pub decreases-loop-left : goal.decreases-loop-left
decreases-loop-left l = length l.left
