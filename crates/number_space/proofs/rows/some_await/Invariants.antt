use Rattle.std.proofs.Common.{◌≡◌, ◌&&◌, ◌==◌, length, drop, false, None}
use Rattle.std.specs.List.{AllWithin}
use Rattle.number_space.specs.Chain.{first_key, values}
use Rattle.number_space.proofs.rows.some_await.Given as goal

abbrev pub invariant-loop : goal.invariant-loop
invariant-loop g l = record {
  all : l.end ≡ length l.rows.entries;
  at : l.at ≡ first_key None (drop l.counter l.rows.entries);
  none : AllWithin (λ r. (r.pending && (r.conn == l.conn)) ≡ false) (values l.rows.entries) 0 l.counter;
}
