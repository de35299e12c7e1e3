use Rattle.std.proofs.Common.{refl}
use Rattle.many_io.proofs.Recorded.{records_as}
use Rattle.many_io.proofs.one.AnyManyHub.pair.Goals as goal

pub returns-clause-calls : goal.returns-clause-calls
returns-clause-calls g c = records_as _ _ _ _ refl c.pair.ensures.calls
