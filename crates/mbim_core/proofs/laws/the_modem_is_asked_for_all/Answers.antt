use Rattle.mbim_core.proofs.Asks.{stepped}
use Rattle.mbim_core.proofs.laws.the_modem_is_asked_for_all.Goals as goal

pub returns : goal.returns
returns c = stepped
