use Rattle.std.proofs.Common.{refl}
use Rattle.dissect.proofs.Computed.{computed}
use Rattle.dissect.proofs.examples.ends_are_told.Goals as goal

pub returns : goal.returns
unfolding computed
returns c = (refl, refl, refl, refl)
