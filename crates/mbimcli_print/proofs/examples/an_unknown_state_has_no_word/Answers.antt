use Rattle.std.proofs.Common.{refl}
use Rattle.mbimcli_print.proofs.Computed.{computed}
use Rattle.mbimcli_print.proofs.examples.an_unknown_state_has_no_word.Goals as goal

pub returns : goal.returns
unfolding computed
returns c = refl
