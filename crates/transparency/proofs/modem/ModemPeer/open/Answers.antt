use Rattle.std.proofs.Common.{[], subst, sym}
use Rattle.modem_profile.specs.Profile.{Profile}
use Rattle.transparency.proofs.modem.ModemPeer.open.Goals as goal

pub returns-clause-profile : goal.returns-clause-profile
returns-clause-profile g c = c.in_ok-profile.ensures.same

pub returns-clause-met : goal.returns-clause-met
returns-clause-met g c = subst (λ (p : Profile). g.S.Sim.keeps (g.S.Simulated.answering p) [] c.in_ok-sim.sim) (sym c.in_ok-profile.ensures.same) c.in_ok-sim.ensures
