use Rattle.pump.proofs.Growing.{pumps_not, pumps_on}
use Rattle.pump.proofs.writing.write_over.Goals as goal

pub returns-in-Ok-clause-calls : goal.returns-in-Ok-clause-calls
returns-in-Ok-clause-calls g c = pumps_on c.in-Ok.ensures.calls c.write_takes.ensures.calls

pub returns-in-Err-clause-calls : goal.returns-in-Err-clause-calls
returns-in-Err-clause-calls g c = pumps_not c.in-Err.ensures.calls
