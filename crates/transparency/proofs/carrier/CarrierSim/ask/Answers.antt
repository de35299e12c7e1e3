use Rattle.std.proofs.Common.{subst, sym}
use Rattle.sim_tunnel.specs.Carrying.{Keeps}
use Rattle.transparency.proofs.carrier.CarrierSim.ask.Goals as goal

pub returns-clause-answers : goal.returns-clause-answers
returns-clause-answers c = λ answers past kept. c.in_ok-ask.ensures.answers answers past (subst (Keeps answers past) (sym c.self.view_is) kept)
