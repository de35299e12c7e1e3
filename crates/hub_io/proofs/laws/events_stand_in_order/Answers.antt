use Rattle.hub_io.proofs.Record.{events-append}
use Rattle.hub_io.proofs.laws.events_stand_in_order.Goals as goal

pub returns : goal.returns
returns c = events-append
