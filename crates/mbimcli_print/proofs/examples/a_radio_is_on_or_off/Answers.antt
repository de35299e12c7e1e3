use Rattle.std.proofs.Common.{refl}
use Rattle.mbimcli_print.proofs.Computed.{computed}
use Rattle.mbimcli_print.proofs.examples.a_radio_is_on_or_off.Goals as goal

pub returns : goal.returns
unfolding computed
returns c = refl
