use Rattle.sim_qmi.proofs.Storage.{stored_set}
use Rattle.sim_qmi.proofs.state.ModemState.delete.Goals as goal

pub invariant_of-self : goal.invariant_of-self
invariant_of-self c = record {
  mode = c.self.invariant.mode;
  stored = stored_set c.self.inside.messages.items c.args.index c.self.invariant.stored;
}
