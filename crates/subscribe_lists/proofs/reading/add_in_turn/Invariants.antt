use Rattle.std.proofs.Common.{◌≤◌, length}
use Rattle.subscribe_lists.proofs.Adding.{Adds}
use Rattle.subscribe_lists.proofs.reading.add_in_turn.Given as goal

abbrev pub invariant-pairs : goal.invariant-pairs
invariant-pairs l = record {
  adds : Adds l.fn.pairs l.into l.pairs;
  few : length l.into ≤ 30;
}

abbrev pub decreases-pairs : goal.decreases-pairs
decreases-pairs l = length l.pairs
