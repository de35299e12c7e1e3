use Rattle.std.proofs.Common.{refl}
use Rattle.sms_print.proofs.Computed.{computed}
use Rattle.sms_print.proofs.examples.all_are_printed.Goals as goal

pub returns : goal.returns
unfolding computed
returns c = record { none = refl; joined = refl }
