use Rattle.std.proofs.Common.{refl}
use Rattle.mbim_services.specs.Table.{layout_for}
use Rattle.sim_mbim.proofs.examples.device_is_described.Goals as goal

pub returns : goal.returns
unfolding layout_for
returns c = record { caps_are = refl; home_is = refl }
