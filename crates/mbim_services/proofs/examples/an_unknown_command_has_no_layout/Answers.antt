use Rattle.std.proofs.Common.{refl}
use Rattle.mbim_services.specs.Table.{layout_for}
use Rattle.mbim_services.proofs.examples.an_unknown_command_has_no_layout.Goals as goal

pub returns : goal.returns
unfolding layout_for
returns c = λ way. refl
