use Rattle.std.proofs.Common.{refl}
use Rattle.mbimcli_print.proofs.Computed.{computed}
use Rattle.mbimcli_print.proofs.examples.an_answer_without_fields_is_ok.Goals as goal

pub returns : goal.returns
unfolding computed
returns c = refl
