use Rattle.sim_modem.specs.Sim.{answers}
use Rattle.sim_qmi.specs.Modem.{machine}
use Rattle.sim_runs.proofs.serving.serve_profile.Goals as goal

-- a QMI modem was served
pub returns-in-Ok-clause-serves : goal.returns-in-Ok-clause-serves
returns-in-Ok-clause-serves g c = rw (c.in-Qmi.is) (c.serve_by.ensures.serves (answers (machine c.args.profile.now)) c.in-Ok.ensures)
