use Rattle.std.proofs.Common.{◌≡◌, ◌≤◌, ◌-◌, ◌++◌, max, replicate}
use Rattle.std.specs.Prelude.{None}
use Rattle.sim_mbim.proofs.modem.add_unused.Given as goal

abbrev pub invariant-loop : goal.invariant-loop
invariant-loop l = (l.entries.items ≡ l.initial.entries.items ++ replicate (l.counter - l.used) None) × (l.counter ≤ max l.used 100)
