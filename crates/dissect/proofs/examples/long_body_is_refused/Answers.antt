use Rattle.std.proofs.Common.{refl}
use Rattle.dissect.proofs.Computed.{computed}
use Rattle.dissect.proofs.examples.long_body_is_refused.Goals as goal

pub returns : goal.returns
unfolding computed
returns c = refl
