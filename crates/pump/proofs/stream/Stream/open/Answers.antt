use Rattle.std.proofs.Common.{refl, ap}
use Rattle.pump.proofs.Following.{StandsFor-none}
use Rattle.pump.proofs.stream.Stream.open.Goals as goal

pub returns-clause-stands : goal.returns-clause-stands
returns-clause-stands c = StandsFor-none _ refl (ap (λ reading. reading.rest) c.in_ok-open.ensures)
