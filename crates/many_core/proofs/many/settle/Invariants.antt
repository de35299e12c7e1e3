use Rattle.std.proofs.Common.{◌≡◌, ◌≤◌, ◌-◌, ◌++◌, length, take}
use Rattle.std.specs.List.{AllByRecursion}
use Rattle.many_seats.specs.Seats.{IsPlaceOf}
use Rattle.many_history.specs.Many.{there, ended}
use Rattle.many_state.specs.Core.{is_there_in}
use Rattle.many_state.specs.Laws.{AreAll}
use Rattle.many_core.proofs.many.settle.Given as goal

abbrev pub invariant-loop-place : goal.invariant-loop-place
invariant-loop-place l = record {
  places : AllByRecursion (λ seat. IsPlaceOf (length l.cores) seat.place) l.seats.seats;
  within : l.place ≤ length l.seats.seats;
  front : AreAll (is_there_in l.cores) (take l.place l.seats.seats);
  present : there (is_there_in l.cores) l.seats.seats ≡ there (is_there_in l.cores) l.initial.seats.seats;
  gone : l.seats.dropped ++ ended (is_there_in l.cores) l.seats.seats ≡ l.initial.seats.dropped ++ ended (is_there_in l.cores) l.initial.seats.seats;
  names : l.seats.names ≡ l.initial.seats.names;
  greatest : l.seats.greatest ≡ l.initial.seats.greatest;
}

abbrev pub decreases-loop-place : goal.decreases-loop-place
decreases-loop-place l = length l.seats.seats - l.place
