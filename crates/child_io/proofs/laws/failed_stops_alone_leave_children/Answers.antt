use Rattle.child_io.proofs.Stops.{leaves_failed_alone}
use Rattle.child_io.proofs.laws.failed_stops_alone_leave_children.Goals as goal

pub returns : goal.returns
returns c = leaves_failed_alone
