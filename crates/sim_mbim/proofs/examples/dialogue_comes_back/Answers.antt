use Rattle.std.proofs.Common.{refl}
use Rattle.mbim_services.specs.Table.{layout_for}
use Rattle.sim_mbim.proofs.examples.dialogue_comes_back.Goals as goal

pub returns : goal.returns
unfolding layout_for
returns c = refl
