use Rattle.std.proofs.Common.{◌≡◌, ◌+◌, ◌≤◌, take, vec_capacity}
use Rattle.kit_bytes.specs.Subscriptions.{Pair}
use Rattle.subscriptions.specs.Counts.{AreCounts, count_of, times_in, total}
use Rattle.subscriptions.proofs.counts.uncount_all.Given as goal

abbrev pub invariant-loop-pair : goal.invariant-loop-pair
invariant-loop-pair l = record {
  counts : AreCounts l.counts.items;
  counted : (pair : Pair) → count_of pair l.counts.items + times_in pair (take l.pair-index l.pairs) ≡ count_of pair l.initial.counts.items;
  total : total l.counts.items + l.pair-index ≡ total l.initial.counts.items;
  capacity : vec_capacity l.initial.counts ≤ vec_capacity l.counts;
}
