use Rattle.std.proofs.Common.{refl}
use Rattle.mbim_services.specs.Table.{layout_for}
use Rattle.sim_mbim.proofs.examples.messages_dont_move.Goals as goal

pub returns : goal.returns
unfolding layout_for
returns c = record { all = refl; deletes = refl; left = refl; one = refl; gone = refl; again = refl; format = refl }
