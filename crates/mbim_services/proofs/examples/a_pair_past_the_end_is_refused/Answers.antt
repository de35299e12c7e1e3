use Rattle.std.proofs.Common.{refl}
use Rattle.mbim_services.specs.Table.{layout_for}
use Rattle.mbim_services.proofs.examples.a_pair_past_the_end_is_refused.Goals as goal

pub returns : goal.returns
unfolding layout_for
returns c = refl
