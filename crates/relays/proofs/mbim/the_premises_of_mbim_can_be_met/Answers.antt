use Rattle.relays.proofs.MbimComputed.{premises_are_met}
use Rattle.relays.proofs.mbim.the_premises_of_mbim_can_be_met.Goals as goal

pub returns : goal.returns
returns c = premises_are_met
