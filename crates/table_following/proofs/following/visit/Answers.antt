use Rattle.std.proofs.Common.{Ok, Err}
use Rattle.table_following.proofs.Visiting.{visited_so}
use Rattle.table_following.proofs.following.visit.Goals as goal

pub returns-in-Ok-clause-visits : goal.returns-in-Ok-clause-visits
returns-in-Ok-clause-visits g c = visited_so (Ok c.in-Ok.end) c.in-Ok.ensures.session c.close.ensures.calls c.end_of.ensures

pub returns-in-Err-clause-visits : goal.returns-in-Err-clause-visits
returns-in-Err-clause-visits g c = visited_so (Err c.in-Err.fault) c.in-Err.ensures.session c.close.ensures.calls c.from.ensures
