use Rattle.std.proofs.Common.{◌≡◌}
use Rattle.ruled_modem.specs.Keeping.{nearer}
use Rattle.served_sim.proofs.Counting.{changed_to}
use Rattle.ruled_modem.proofs.counting.bring_nearer.Given as goal

abbrev pub invariant-loop-fault : goal.invariant-loop-fault
invariant-loop-fault l = l.fault-items ≡ changed_to (nearer 1) l.fault-index l.fn.faults.items
