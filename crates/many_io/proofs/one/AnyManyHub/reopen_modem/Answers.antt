use Rattle.many_io.proofs.Recorded.{records_as, reopened_is}
use Rattle.many_io.proofs.one.AnyManyHub.reopen_modem.Goals as goal

pub returns-clause-calls : goal.returns-clause-calls
returns-clause-calls g c = records_as _ _ _ _ (reopened_is c.reopen_modem.result _ c.requires) c.reopen_modem.ensures.calls
