use Rattle.std.proofs.Common.{◌≡◌, ◌==◌, length, drop, None}
use Rattle.number_space.specs.Chain.{first_key}
use Rattle.number_space.specs.Index.{on_row}
use Rattle.number_space.specs.Table.{settled_where}
use Rattle.number_space.proofs.InUse.{map_front}
use Rattle.number_space.proofs.rows.orphan.Given as goal

abbrev pub invariant-loop : goal.invariant-loop
invariant-loop g l = record {
  all : l.end ≡ length l.fn.rows.entries;
  at : l.at ≡ first_key None (drop l.counter l.rows.entries);
  entries : l.rows.entries ≡ map_front (on_row (settled_where (λ r. l.fn.conn == r.conn))) l.counter l.fn.rows.entries;
  capacity : l.rows.capacity ≡ l.fn.rows.capacity;
}
