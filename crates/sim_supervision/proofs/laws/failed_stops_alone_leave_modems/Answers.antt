use Rattle.sim_supervision.proofs.Left.{failed_stops_alone_leave_modems}
use Rattle.sim_supervision.proofs.laws.failed_stops_alone_leave_modems.Goals as goal

pub returns : goal.returns
returns c = failed_stops_alone_leave_modems
