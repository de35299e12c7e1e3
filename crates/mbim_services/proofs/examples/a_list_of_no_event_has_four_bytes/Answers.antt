use Rattle.std.proofs.Common.{refl}
use Rattle.mbim_services.specs.Table.{layout_for}
use Rattle.mbim_services.proofs.examples.a_list_of_no_event_has_four_bytes.Goals as goal

pub returns : goal.returns
unfolding layout_for
returns c = refl
