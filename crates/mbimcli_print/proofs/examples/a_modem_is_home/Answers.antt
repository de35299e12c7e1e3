use Rattle.std.proofs.Common.{refl}
use Rattle.mbimcli_print.proofs.Computed.{computed}
use Rattle.mbimcli_print.proofs.examples.a_modem_is_home.Goals as goal

pub returns : goal.returns
unfolding computed
returns c = refl
