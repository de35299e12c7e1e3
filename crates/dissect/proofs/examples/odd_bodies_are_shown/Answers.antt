use Rattle.std.proofs.Common.{refl}
use Rattle.dissect.proofs.Computed.{computed}
use Rattle.dissect.proofs.examples.odd_bodies_are_shown.Goals as goal

pub returns : goal.returns
unfolding computed
returns c = refl
