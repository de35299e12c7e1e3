use Rattle.std.proofs.Common.{Ok, Err}
use Rattle.kit_io.proofs.Growth.{Grows-none}
use Rattle.tool_runs.proofs.Ends.{visited_so}
use Rattle.tool_runs.proofs.asking.visit.Goals as goal

pub returns-in-Ok-clause-visits : goal.returns-in-Ok-clause-visits
returns-in-Ok-clause-visits g c = visited_so (Ok c.in-Ok.end) c.in-Ok.ensures.holds c.close.ensures.calls c.print_end.ensures.prints

pub returns-in-Err-clause-visits : goal.returns-in-Err-clause-visits
returns-in-Err-clause-visits g c = visited_so (Err c.in-Err.fault) c.in-Err.ensures.holds c.close.ensures.calls (c.from.ensures, Grows-none _)
