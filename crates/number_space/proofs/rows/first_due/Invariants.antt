use Rattle.std.proofs.Common.{◌≡◌, length, drop, false, None}
use Rattle.std.specs.List.{AllWithin}
use Rattle.number_space.specs.Chain.{first_key, values}
use Rattle.number_space.specs.Table.{is_due}
use Rattle.number_space.proofs.rows.first_due.Given as goal

abbrev pub invariant-loop : goal.invariant-loop
invariant-loop g l = record {
  all : l.end ≡ length l.rows.entries;
  at : l.at ≡ first_key None (drop l.counter l.rows.entries);
  none : AllWithin (λ r. is_due l.now r ≡ false) (values l.rows.entries) 0 l.counter;
}
