use Rattle.std.proofs.Common.{◌≡◌, ◌<◌, ◌≤◌, ◌-◌, true, length}
use Rattle.many_history.specs.Many.{Seat}
use Rattle.many_seats.specs.Seats.{IsSeat}
use Rattle.many_core.specs.Core.{has_waiting}
use Rattle.many_core.proofs.Waits.{NoneOfFirst}
use Rattle.many_core.proofs.many.ManyCore.waiting_from.Given as goal

abbrev pub invariant-loop-device : goal.invariant-loop-device
invariant-loop-device l = record {
  devices : l.device ≤ length l.self.core.cores;
  behind : l.from ≤ l.first;
  within : l.first ≤ length l.self.core.seats;
  found : l.first < length l.self.core.seats → (seat : Seat) → IsSeat seat l.self.core.seats l.first → has_waiting l.self.core.cores seat ≡ true;
  none : NoneOfFirst l.self.core.cores l.self.core.seats l.from l.device l.first;
}

abbrev pub decreases-loop-device : goal.decreases-loop-device
decreases-loop-device l = length l.self.core.cores - l.device
