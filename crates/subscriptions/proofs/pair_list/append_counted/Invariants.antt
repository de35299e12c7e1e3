use Rattle.std.proofs.Common.{◌≡◌, ◌≤◌, ◌++◌, take, vec_capacity}
use Rattle.subscriptions.specs.Counts.{pairs_in}
use Rattle.subscriptions.proofs.pair_list.append_counted.Given as goal

abbrev pub invariant-loop-counted : goal.invariant-loop-counted
invariant-loop-counted l = record {
  items : l.pairs.items ≡ l.initial.pairs.items ++ pairs_in (take l.counted-index l.counts);
  capacity : vec_capacity l.initial.pairs ≤ vec_capacity l.pairs;
}
