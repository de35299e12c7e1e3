use Rattle.relays.proofs.MbimComputed.{relays}
use Rattle.relays.proofs.mbim.mbim_relays_are_as_written.Goals as goal

pub returns : goal.returns
returns c = relays
