use Rattle.std.proofs.Common.{refl}
use Rattle.mbim_services.specs.Table.{layout_for}
use Rattle.sim_mbim.proofs.examples.commands_are_refused.Goals as goal

pub returns : goal.returns
unfolding layout_for
returns c = record { no_command = refl; no_set = refl; short = refl; wrong = refl; unchanged = refl; length = refl; length_before = refl }
