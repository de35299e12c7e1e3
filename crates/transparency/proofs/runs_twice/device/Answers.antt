use Rattle.std.proofs.Common.{rules}
use Rattle.rig_play.proofs.Naming.{is_device}
use Rattle.transparency.proofs.runs_twice.device.Goals as goal

pub returns : goal.returns
returns c = is_device c.unwrap.result (search rules)
