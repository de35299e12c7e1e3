use Rattle.std.proofs.Common.{refl}
use Rattle.dissect.proofs.Computed.{computed}
use Rattle.dissect.proofs.examples.kinds_are_joined_apart.Goals as goal

pub returns : goal.returns
unfolding computed
returns c = refl
