use Rattle.std.proofs.Common.{refl}
use Rattle.dissect.proofs.Computed.{computed}
use Rattle.link_lines.proofs.examples.fragments_are_told.Goals as goal

pub returns : goal.returns
unfolding computed
returns c = refl
