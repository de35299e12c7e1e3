use Rattle.std.proofs.Common.{refl}
use Rattle.mbim_services.specs.Table.{layout_for}
use Rattle.sim_mbim.proofs.examples.radio_is_told.Goals as goal

pub returns : goal.returns
unfolding layout_for
returns c = record { off = refl; is_off = refl; on = refl; same = refl; none = refl; unheard = refl; some = refl; heard = refl }
