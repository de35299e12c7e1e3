use Rattle.std.proofs.Common.{◌≡◌, ◌≤◌, ◌&&◌, ◌==◌, length, take, drop, filter, None}
use Rattle.number_space.specs.Chain.{first_key, values}
use Rattle.number_space.proofs.rows.how_many_await.Given as goal

abbrev pub invariant-loop : goal.invariant-loop
invariant-loop g l = record {
  all : l.end ≡ length l.rows.entries;
  at : l.at ≡ first_key None (drop l.counter l.rows.entries);
  counted : l.count ≡ length (filter (λ r. r.pending && (r.conn == l.conn)) (take l.counter (values l.rows.entries)));
  few : l.count ≤ l.counter;
}
