use Rattle.rig_laws_mbim.proofs.Law.{each_run_is_fair}
use Rattle.rig_laws_mbim.proofs.laws.each_client_gets_the_same.Goals as goal

pub returns : goal.returns
returns c = each_run_is_fair
