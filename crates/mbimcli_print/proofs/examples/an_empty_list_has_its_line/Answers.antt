use Rattle.std.proofs.Common.{refl}
use Rattle.mbimcli_print.proofs.Computed.{computed}
use Rattle.mbimcli_print.proofs.examples.an_empty_list_has_its_line.Goals as goal

pub returns : goal.returns
unfolding computed
returns c = refl
