use Rattle.std.proofs.Common.{refl}
use Rattle.kit_io.proofs.Growth.{Grows-none}
use Rattle.program.specs.Rigging.{no_memory}
use Rattle.program.proofs.rigging.print_rig.Goals as goal

-- memory ran out
pub returns-in-Err-clause-rigs : goal.returns-in-Err-clause-rigs
returns-in-Err-clause-rigs g c = no_memory c.in-Err.ensures.stops (Grows-none _) refl
