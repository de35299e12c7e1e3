use Rattle.std.proofs.Common.{arith}
use Rattle.sim_qmi.proofs.Storage.{message_stored}
use Rattle.sim_qmi.proofs.state.copy.Goals as goal

pub returns-clause-stored : goal.returns-clause-stored
returns-clause-stored c = message_stored c.args.message.now c.requires (λ k. omega (arith, c.type_inv.message k))
