use Rattle.device_core.proofs.Allocation.{allocated-in}
use Rattle.link_session.proofs.Steps.{Makes-map}
use Rattle.device_core.proofs.session.run_allocated.Goals as goal

pub returns-clause-commands : goal.returns-clause-commands
returns-clause-commands g c = λ heard stands.
    Makes-map (λ calls commands. (c.allocated-cid.result, allocated-in c.tlvs_in.ensures c.bytes.ensures c.allocated-cid.ensures, commands)) (c.run_command.ensures.commands heard stands)
