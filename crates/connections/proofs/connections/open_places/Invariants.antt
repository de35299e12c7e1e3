use Rattle.std.proofs.Common.{◌≡◌, ◌≤◌, ◌-◌, vec_len, vec_capacity}
use Rattle.std.specs.List.{AllByRecursion}
use Rattle.connections.proofs.connections.open_places.Given as goal

abbrev pub invariant-loop-alloc : goal.invariant-loop-alloc
invariant-loop-alloc g l = record {
  rooms : AllByRecursion (λ p. p.outbox.capacity ≡ l.room) l.places.items;
  few : vec_len l.places ≤ l.limit;
  capacity : l.limit ≤ vec_capacity l.places;
}

abbrev pub decreases-loop-alloc : goal.decreases-loop-alloc
decreases-loop-alloc g l = l.limit - vec_len l.places
