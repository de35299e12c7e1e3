use Rattle.std.proofs.Common.{◌≡◌, ◌+◌, ◌<◌, ◌≤◌, length, refl, ap, arith, rules}
use Rattle.rig_runs.specs.Rig as rig
use Rattle.rig_stage.proofs.Acting.{on_ok}
use Rattle.rig_stage.proofs.Stopping.{on_err, also_on_err, meet_more}
use Rattle.rig_play.specs.Play.{script_of, Plays}
use Rattle.rig_play.proofs.Sent.{longest_sent}
use Rattle.rig_play.proofs.Taking.{takes_as, takes_sending_none, sends_next}
use Rattle.rig_play.proofs.Halting.{halts_as, halts_here, halts_with_stage, request_more, sending_stops}
use Rattle.rig_play.proofs.Turning.{requests, arrives}
use Rattle.rig_play.proofs.players.Players.request_or_arrive.Given.{Over}
use Rattle.rig_play.proofs.players.Players.request_or_arrive.Goals as goal

abbrev script : Over → rig.Script
script g = script_of g.P.Protocol.first g.P.Protocol.second g.P.Protocol.asks g.P.Protocol.FIRST_NUMBER

pub returns-then-held-ge-MOST_HELD-clause-takes : goal.returns-then-held-ge-MOST_HELD-clause-takes
returns-then-held-ge-MOST_HELD-clause-takes g c =
    let many : 200 ≤ length c.args.self.now.world.held = search rules in
    on_ok c.longest_arrives.result
    (λ acts. takes_as (script g) (takes_sending_none (script g) c.self.view_is acts refl (λ n cast stage. longest_sent n cast stage))
    (λ cast opened earlier stage it. arrives cast (script g) (c.args.index + 1) c.args.choice stage (omega (arith, many, ap length it.stands.holds.held))))
    c.longest_arrives.ensures.acts

pub returns-then-held-ge-MOST_HELD-clause-stops : goal.returns-then-held-ge-MOST_HELD-clause-stops
returns-then-held-ge-MOST_HELD-clause-stops g c =
    let many : 200 ≤ length c.args.self.now.world.held = search rules in
    on_err c.longest_arrives.result
    (λ stops. halts_as (script g) (halts_with_stage (script g) c.self.view_is stops)
    (λ cast opened earlier stage it. arrives cast (script g) (c.args.index + 1) c.args.choice stage (omega (arith, many, ap length it.stands.holds.held))))
    c.longest_arrives.ensures.stops

pub returns-clause-takes : goal.returns-clause-takes
returns-clause-takes g c =
    let few : length c.args.self.now.world.held < 200 = search rules in
    on_ok c.say.result
    (λ acts. takes_as (script g) (sends_next (script g) c.args.index c.args.choice c.take_number-number.result c.self.view_is acts (search rules) (search rules) (search rules) (search rules) (search rules))
    (λ cast opened earlier stage it. requests cast (script g) (c.args.index + 1) c.args.choice stage (omega (arith, few, ap length it.stands.holds.held))))
    c.say.ensures.acts

pub returns-in_err-message-clause-stops : goal.returns-in_err-message-clause-stops
returns-in_err-message-clause-stops g c =
    let client = c.args.index + 1 in
    also_on_err c.from_residual.result
    (halts_here (script g) c.args.bench.now (λ cast stage. rig.request_or_arrive cast (script g) (record { client = client; choice = c.args.choice }) stage)
    (λ cast stage. request_more cast (script g) (record { client = client; choice = c.args.choice }) stage))

pub returns-clause-stops : goal.returns-clause-stops
returns-clause-stops g c =
    let few : length c.args.self.now.world.held < 200 = search rules in
    on_err c.say.result
    (λ stops. halts_as (script g) (sending_stops (script g) c.args.index c.args.choice c.take_number-number.result c.self.view_is stops (search rules) (search rules) (search rules) (search rules))
    (λ cast opened earlier stage it. requests cast (script g) (c.args.index + 1) c.args.choice stage (omega (arith, few, ap length it.stands.holds.held))))
    c.say.ensures.stops
