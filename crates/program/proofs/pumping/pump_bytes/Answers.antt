use Rattle.std.proofs.Common.{refl}
use Rattle.program.specs.Pumping.{no_memory, pumped}
use Rattle.program.proofs.pumping.pump_bytes.Goals as goal

pub returns-in-Ok-clause-pumps : goal.returns-in-Ok-clause-pumps
returns-in-Ok-clause-pumps g c = pumped _ c.in-Ok.ensures.pumps c.from.ensures

pub returns-in-Err-clause-pumps : goal.returns-in-Err-clause-pumps
returns-in-Err-clause-pumps g c = no_memory c.in-Err.ensures.pumps refl
