use Rattle.many_io.proofs.Recorded.{records_as, sent_is}
use Rattle.many_io.proofs.one.AnyManyHub.send.Goals as goal

pub returns-clause-calls : goal.returns-clause-calls
returns-clause-calls g c = records_as _ _ _ _ (sent_is c.send.result _ _) c.send.ensures.calls
