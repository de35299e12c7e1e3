use Rattle.std.proofs.Common.{◌≡◌, ◌≤◌, ◌-◌, vec_len, vec_capacity}
use Rattle.std.specs.List.{AllByRecursion}
use Rattle.many_seats.proofs.seats.zeros.Given as goal

abbrev pub invariant-loop-names : goal.invariant-loop-names
invariant-loop-names l = record {
  zeros : AllByRecursion (λ name. name ≡ 0) l.names.items;
  few : vec_len l.names ≤ l.count;
  capacity : l.count ≤ vec_capacity l.names;
}

abbrev pub decreases-loop-names : goal.decreases-loop-names
decreases-loop-names l = l.count - vec_len l.names
