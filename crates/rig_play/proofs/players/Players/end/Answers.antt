use Rattle.std.proofs.Common.{refl, ◌∙◌}
use Rattle.rig_runs.specs.Rig as rig
use Rattle.rig_runs.specs.Stage as defined
use Rattle.rig_stage.proofs.Stopping.{also_on_err, meet_more, stops_before, stops_behind}
use Rattle.rig_play.specs.Play.{script_of}
use Rattle.rig_play.proofs.Sent.{all_sent, passed_sent}
use Rattle.rig_play.proofs.Taking.{acts_then, takes_sending_none}
use Rattle.rig_play.proofs.Halting.{halts_with_stage}
use Rattle.rig_play.proofs.players.Players.end.Given.{Over}
use Rattle.rig_play.proofs.players.Players.end.Goals as goal

abbrev script : Over → rig.Script
script g = script_of g.P.Protocol.first g.P.Protocol.second g.P.Protocol.asks g.P.Protocol.FIRST_NUMBER

pub returns-clause-takes : goal.returns-clause-takes
returns-clause-takes g c =
    takes_sending_none (script g) c.self.view_is (acts_then defined.all_arrive (λ cast stage. rig.pass cast 60000 stage) c.in_ok-all_arrive.ensures.acts c.in_ok-pass.ensures.acts) refl
    (λ n cast stage. passed_sent n cast 60000 (defined.all_arrive cast stage) ∙ all_sent n cast stage)

pub returns-in_err-all_arrive-clause-stops : goal.returns-in_err-all_arrive-clause-stops
returns-in_err-all_arrive-clause-stops g c =
    also_on_err c.from_residual.result
    (halts_with_stage (script g) c.self.view_is (stops_before defined.all_arrive (λ cast stage. rig.pass cast 60000 stage) (λ cast stage. meet_more cast _ stage) c.in_err-all_arrive.ensures.stops))

pub returns-in_err-pass-clause-stops : goal.returns-in_err-pass-clause-stops
returns-in_err-pass-clause-stops g c =
    also_on_err c.from_residual-in_err-pass.result
    (halts_with_stage (script g) c.self.view_is (stops_behind defined.all_arrive (λ cast stage. rig.pass cast 60000 stage) c.in_ok-all_arrive.ensures.acts c.in_err-pass.ensures.stops))
