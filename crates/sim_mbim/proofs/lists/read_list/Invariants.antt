use Rattle.std.proofs.Common.{◌≡◌, ◌≤◌, ◌++◌, length}
use Rattle.sim_mbim.proofs.lists.read_list.Given as goal

abbrev pub invariant-events : goal.invariant-events
invariant-events l = record {
  all : l.pairs.items ++ l.events ≡ l.initial.events;
  few : length l.pairs.items ≤ 1920;
}

abbrev pub decreases-events : goal.decreases-events
decreases-events l = length l.events
