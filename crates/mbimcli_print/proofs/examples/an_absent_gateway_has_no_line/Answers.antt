use Rattle.std.proofs.Common.{refl}
use Rattle.mbimcli_print.proofs.Computed.{computed}
use Rattle.mbimcli_print.proofs.examples.an_absent_gateway_has_no_line.Goals as goal

pub returns : goal.returns
unfolding computed
returns c = refl
