use Rattle.mbim_solo.proofs.Orders.{openings_are_in_order}
use Rattle.mbim_solo.proofs.laws.openings_are_in_order.Goals as goal

pub returns : goal.returns
returns c = openings_are_in_order
