use Rattle.many_io.proofs.Recorded.{records_as, opened_is}
use Rattle.many_io.proofs.one.AnyManyHub.open.Goals as goal

pub returns-clause-calls : goal.returns-clause-calls
returns-clause-calls g c = records_as _ _ _ _ (opened_is c.open.result _ _ _ c.first.ensures.value c.requires) c.open.ensures.calls
