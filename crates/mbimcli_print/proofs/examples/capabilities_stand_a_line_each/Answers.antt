use Rattle.std.proofs.Common.{refl}
use Rattle.mbimcli_print.proofs.Computed.{computed}
use Rattle.mbimcli_print.proofs.examples.capabilities_stand_a_line_each.Goals as goal

pub returns : goal.returns
unfolding computed
returns c = refl
