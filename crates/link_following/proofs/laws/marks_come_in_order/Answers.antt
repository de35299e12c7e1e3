use Rattle.link_following.proofs.Coming.{in_order}
use Rattle.link_following.proofs.laws.marks_come_in_order.Goals as goal

pub returns : goal.returns
returns c = in_order
