use Rattle.std.proofs.Common.{◌≡◌, ◌+◌, ◌≤◌, take, vec_capacity}
use Rattle.kit_bytes.specs.Subscriptions.{Pair}
use Rattle.subscriptions.specs.Counts.{AreCounts, count_of, times_in, total}
use Rattle.subscriptions.proofs.counts.count_all.Given as goal

abbrev pub invariant-loop-pair : goal.invariant-loop-pair
invariant-loop-pair l = record {
  counts : AreCounts l.counts.items;
  counted : (pair : Pair) → count_of pair l.counts.items ≡ count_of pair l.initial.counts.items + times_in pair (take l.pair-index l.pairs);
  total : total l.counts.items ≡ total l.initial.counts.items + l.pair-index;
  capacity : vec_capacity l.initial.counts ≤ vec_capacity l.counts;
}
