use Rattle.framing.proofs.Standing.{cut-only}
use Rattle.framing.proofs.laws.cutting_is_the_only_one.Goals as goal

pub returns : goal.returns
returns g c = cut-only _ g.met.F.Framing.kept g.met.F.Framing.positive
