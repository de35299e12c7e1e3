use Rattle.std.proofs.Common.{refl}
use Rattle.mbim_services.specs.Table.{layout_for}
use Rattle.sim_mbim.proofs.examples.opening_comes_first.Goals as goal

pub returns : goal.returns
unfolding layout_for
returns c = record { opens = refl; before = refl; behind = refl; closes = refl; stays_open = refl; long = refl; other = refl }
