use Rattle.std.proofs.Common.{refl}
use Rattle.mbim_services.specs.Table.{layout_for}
use Rattle.mbim_services.proofs.examples.an_event_stands_behind_its_pair.Goals as goal

pub returns : goal.returns
unfolding layout_for
returns c = refl
