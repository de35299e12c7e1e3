use Rattle.std.proofs.Common.{◌≡◌}
use Rattle.sim_qmi.specs.State.{free_id}
use Rattle.sim_qmi.proofs.ClientIds.{free_from}
use Rattle.sim_qmi.proofs.state.ModemState.free_id.Given as goal

abbrev pub invariant-loop-id : goal.invariant-loop-id
invariant-loop-id l = free_id l.self.clients l.service ≡ free_from l.self.clients l.service l.id
