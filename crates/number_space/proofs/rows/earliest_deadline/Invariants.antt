use Rattle.std.proofs.Common.{◌≡◌, ◌<◌, length, take, drop, Any, None}
use Rattle.number_space.specs.Chain.{first_key, values}
use Rattle.number_space.specs.Table.{NoneIsDueBefore, IsPendingUntil}
use Rattle.number_space.proofs.rows.earliest_deadline.Given as goal

abbrev pub invariant-loop : goal.invariant-loop
invariant-loop g l = record {
  all : l.end ≡ length l.rows.entries;
  at : l.at ≡ first_key None (drop l.counter l.rows.entries);
  none_due : NoneIsDueBefore l.earliest (take l.counter (values l.rows.entries));
  least : l.earliest < 18446744073709551615 → Any (IsPendingUntil l.earliest) (take l.counter (values l.rows.entries));
}
