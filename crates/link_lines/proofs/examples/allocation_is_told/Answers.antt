use Rattle.std.proofs.Common.{refl}
use Rattle.dissect.proofs.Computed.{computed}
use Rattle.link_lines.proofs.examples.allocation_is_told.Goals as goal

pub returns : goal.returns
unfolding computed
returns c = refl
