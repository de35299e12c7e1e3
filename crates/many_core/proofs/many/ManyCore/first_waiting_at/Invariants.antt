use Rattle.std.proofs.Common.{◌≡◌, ℕ, ◌<◌, ◌≤◌, ◌-◌, true, false}
use Rattle.many_history.specs.Many.{Seat}
use Rattle.many_seats.specs.Seats.{IsSeat}
use Rattle.many_core.specs.Core.{is_at, has_waiting}
use Rattle.many_core.proofs.many.ManyCore.first_waiting_at.Given as goal

abbrev pub invariant-loop-place : goal.invariant-loop-place
invariant-loop-place l = record {
  behind : l.from ≤ l.place;
  within : l.place ≤ l.end;
  none : (k : ℕ) (seat : Seat) → l.from ≤ k → k < l.place → IsSeat seat l.self.core.seats k → is_at l.device seat.place ≡ true → has_waiting l.self.core.cores seat ≡ false;
}

abbrev pub decreases-loop-place : goal.decreases-loop-place
decreases-loop-place l = l.end - l.place
