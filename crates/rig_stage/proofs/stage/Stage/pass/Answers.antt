use Rattle.std.proofs.Common.{◌≡◌, ◌+◌, ap, ◌∙◌, rules}
use Rattle.proxy_history.specs.Events.{Now}
use Rattle.rig_runs.specs.Rig.{pass}
use Rattle.rig_runs.specs.Stage as rig
use Rattle.rig_stage.proofs.Acting.{on_ok, acts_as}
use Rattle.rig_stage.proofs.Stopping.{on_err, stops_as}
use Rattle.rig_stage.proofs.stage.Stage.pass.Goals as goal

pub returns-clause-acts : goal.returns-clause-acts
returns-clause-acts g c =
    let time : c.self.inside.time ≡ c.args.self.now.time = search rules in
    on_ok c.meet.result (λ acts. acts_as (λ cast stage. pass cast c.args.time stage) (λ cast opened earlier stage it. ap (λ t. rig.meet cast (Now (t + c.args.time)) stage) (time ∙ it.time)) acts) c.meet.ensures.acts

pub returns-clause-stops : goal.returns-clause-stops
returns-clause-stops g c =
    let time : c.self.inside.time ≡ c.args.self.now.time = search rules in
    on_err c.meet.result (λ stops. stops_as (λ cast stage. pass cast c.args.time stage) (λ cast opened earlier stage it. ap (λ t. rig.meet cast (Now (t + c.args.time)) stage) (time ∙ it.time)) stops) c.meet.ensures.stops
