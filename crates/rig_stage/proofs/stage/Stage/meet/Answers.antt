use Rattle.std.proofs.Common.{rules}
use Rattle.rig_stage.proofs.Acting.{on_ok, meets_all}
use Rattle.rig_stage.proofs.Stopping.{on_err, meets_some}
use Rattle.rig_stage.proofs.stage.Stage.meet.Goals as goal

pub returns-clause-acts : goal.returns-clause-acts
returns-clause-acts g c = on_ok c.serve_modem.result (λ acts. meets_all _ {old = c.args.self.now} _ (search rules) (search rules) c.meet.ensures.met c.clients_take.ensures.met acts) c.serve_modem.ensures.acts

pub returns-clause-stops : goal.returns-clause-stops
returns-clause-stops g c = on_err c.serve_modem.result (λ stops. meets_some _ {old = c.args.self.now} _ (search rules) (search rules) c.meet.ensures.met c.clients_take.ensures.met stops) c.serve_modem.ensures.stops
