use Rattle.std.proofs.Common.{refl}
use Rattle.dissect.proofs.Computed.{computed}
use Rattle.link_lines.proofs.examples.part_is_told_later.Goals as goal

pub returns : goal.returns
unfolding computed
returns c = refl
