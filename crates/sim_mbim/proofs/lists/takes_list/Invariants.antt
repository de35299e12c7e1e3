use Rattle.std.proofs.Common.{◌≡◌, ◌≤◌, ◌+◌, length}
use Rattle.sim_mbim.proofs.lists.takes_list.Given as goal

abbrev pub invariant-events : goal.invariant-events
invariant-events l = record {
  all : l.count + length l.events ≡ length l.initial.events;
  few : l.count ≤ 1920;
}

abbrev pub decreases-events : goal.decreases-events
decreases-events l = length l.events
