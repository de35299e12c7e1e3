use Rattle.std.proofs.Common.{refl}
use Rattle.mbimcli_print.proofs.Computed.{computed}
use Rattle.mbimcli_print.proofs.examples.bytes_are_hexadecimal.Goals as goal

pub returns : goal.returns
unfolding computed
returns c = refl
