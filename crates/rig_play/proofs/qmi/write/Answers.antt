use Rattle.std.proofs.Common.{◌≤◌, length, rules}
use Rattle.rig_play.proofs.Short.{short_message}
use Rattle.rig_play.proofs.qmi.write.Goals as goal

pub returns-clause-short : goal.returns-clause-short
returns-clause-short c = let short : length c.as_slice.result.now ≤ 5000 = search rules in short_message _ _ _ c.in_ok-octets.ensures short
