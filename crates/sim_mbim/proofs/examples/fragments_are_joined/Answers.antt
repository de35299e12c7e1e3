use Rattle.std.proofs.Common.{refl}
use Rattle.mbim_services.specs.Table.{layout_for}
use Rattle.sim_mbim.proofs.examples.fragments_are_joined.Goals as goal

pub returns : goal.returns
unfolding layout_for
returns c = record { first = refl; second = refl; alone = refl; twice = refl; between = refl; before = refl; small = refl }
