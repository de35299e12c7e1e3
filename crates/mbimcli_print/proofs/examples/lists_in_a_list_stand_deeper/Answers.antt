use Rattle.std.proofs.Common.{refl}
use Rattle.mbimcli_print.proofs.Computed.{computed}
use Rattle.mbimcli_print.proofs.examples.lists_in_a_list_stand_deeper.Goals as goal

pub returns : goal.returns
unfolding computed
returns c = refl
