use Rattle.std.proofs.Common.{refl, ap}
use Rattle.framing.specs.Cutting.{cut_from}
use Rattle.link_lines.proofs.direction.Direction.open.Goals as goal

pub returns-clause-stands : goal.returns-clause-stands
unfolding cut_from
returns-clause-stands g c = λ shown kept. record { rest = ap (λ r. r.rest) c.in_ok-cutter.ensures; kept = kept; placed = refl }
