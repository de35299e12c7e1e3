use Rattle.std.proofs.Common.{subst, sym}
use Rattle.program.specs.Status.{IsOfSimulator}
use Rattle.program.proofs.Ends.{is_of_simulator}
use Rattle.program.proofs.simulator.simulate_ruled_modem.Goals as goal

pub returns-clause-own : goal.returns-clause-own
returns-clause-own g c = subst IsOfSimulator (sym c.from.ensures) (is_of_simulator _ c.simulate_by_rules.ensures.never_lost)
