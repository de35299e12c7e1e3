use Rattle.std.proofs.Common.{◌≡◌}
use Rattle.served_sim.proofs.Counting.{changed_to}
use Rattle.sim_serving.specs.Hearing.{ticks_on}
use Rattle.sim_serving.proofs.sim_core.tick_all.Given as goal

abbrev pub invariant-loop-client : goal.invariant-loop-client
invariant-loop-client g l = l.client-items ≡ changed_to (ticks_on l.told) l.client-index l.fn.clients.items
