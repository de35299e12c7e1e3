use Rattle.std.specs.Prelude.{IfOk}
use Rattle.std.proofs.Common.{[], subst}
use Rattle.sim_modem.specs.Sim.{answers}
use Rattle.sim_mbim.specs.Answers.{Keeps, machine}
use Rattle.rig_play.proofs.mbim.MbimClientsProtocol.modem.Goals as goal

pub returns : goal.returns
returns c = subst (λ profile. IfOk c.open-modem.result (λ sim. Keeps (answers (machine profile)) [] sim)) c.in_ok-profile.ensures c.open-modem.ensures.keeps
