use Rattle.std.proofs.Common.{◌≡◌, ◌+◌, refl, rules}
use Rattle.rig_runs.specs.Rig as rig
use Rattle.rig_stage.proofs.Acting.{on_ok}
use Rattle.rig_stage.proofs.Stopping.{on_err}
use Rattle.rig_play.specs.Play.{script_of}
use Rattle.rig_play.proofs.Sent.{longest_sent, shortest_sent, passed_sent}
use Rattle.rig_play.proofs.Taking.{takes_as, takes_sending_none}
use Rattle.rig_play.proofs.Halting.{halts_as, halts_with_stage}
use Rattle.rig_play.proofs.Turning.{plays_request, plays_longest, plays_shortest, plays_pass}
use Rattle.rig_play.proofs.players.Players.act.Given.{Over}
use Rattle.rig_play.proofs.players.Players.act.Goals as goal

abbrev script : Over → rig.Script
script g = script_of g.P.Protocol.first g.P.Protocol.second g.P.Protocol.asks g.P.Protocol.FIRST_NUMBER

pub returns-then-choice-lt4-clause-takes : goal.returns-then-choice-lt4-clause-takes
returns-then-choice-lt4-clause-takes g c =
    on_ok c.request_or_arrive.result (λ takes. takes_as (script g) takes (λ cast opened earlier stage it. plays_request cast (script g) (c.args.index + 1) c.args.choice stage c.if-choice-lt4.true)) c.request_or_arrive.ensures.takes

pub returns-then-choice-lt6-clause-takes : goal.returns-then-choice-lt6-clause-takes
returns-then-choice-lt6-clause-takes g c =
    on_ok c.longest_arrives.result
    (λ acts. takes_as (script g) (takes_sending_none (script g) c.self.view_is acts refl (λ n cast stage. longest_sent n cast stage))
    (λ cast opened earlier stage it. plays_longest cast (script g) (c.args.index + 1) c.args.choice stage c.if-choice-lt4.false c.if-choice-lt6.true))
    c.longest_arrives.ensures.acts

pub returns-then-choice-eq6-clause-takes : goal.returns-then-choice-eq6-clause-takes
returns-then-choice-eq6-clause-takes g c =
    on_ok c.shortest_arrives.result
    (λ acts. takes_as (script g) (takes_sending_none (script g) c.self.view_is acts refl (λ n cast stage. shortest_sent n cast stage))
    (λ cast opened earlier stage it. plays_shortest cast (script g) (c.args.index + 1) c.args.choice stage c.if-choice-eq6.true))
    c.shortest_arrives.ensures.acts

pub returns-else-choice-eq6-clause-takes : goal.returns-else-choice-eq6-clause-takes
returns-else-choice-eq6-clause-takes g c =
    let last : c.args.choice ≡ 7 = search rules in
    on_ok c.pass.result
    (λ acts. takes_as (script g) (takes_sending_none (script g) c.self.view_is acts refl (λ n cast stage. passed_sent n cast 1000 stage))
    (λ cast opened earlier stage it. plays_pass cast (script g) (c.args.index + 1) c.args.choice stage last))
    c.pass.ensures.acts

pub returns-then-choice-lt4-clause-stops : goal.returns-then-choice-lt4-clause-stops
returns-then-choice-lt4-clause-stops g c =
    on_err c.request_or_arrive.result (λ halts. halts_as (script g) halts (λ cast opened earlier stage it. plays_request cast (script g) (c.args.index + 1) c.args.choice stage c.if-choice-lt4.true)) c.request_or_arrive.ensures.stops

pub returns-then-choice-lt6-clause-stops : goal.returns-then-choice-lt6-clause-stops
returns-then-choice-lt6-clause-stops g c =
    on_err c.longest_arrives.result
    (λ stops. halts_as (script g) (halts_with_stage (script g) c.self.view_is stops)
    (λ cast opened earlier stage it. plays_longest cast (script g) (c.args.index + 1) c.args.choice stage c.if-choice-lt4.false c.if-choice-lt6.true))
    c.longest_arrives.ensures.stops

pub returns-then-choice-eq6-clause-stops : goal.returns-then-choice-eq6-clause-stops
returns-then-choice-eq6-clause-stops g c =
    on_err c.shortest_arrives.result
    (λ stops. halts_as (script g) (halts_with_stage (script g) c.self.view_is stops) (λ cast opened earlier stage it. plays_shortest cast (script g) (c.args.index + 1) c.args.choice stage c.if-choice-eq6.true))
    c.shortest_arrives.ensures.stops

pub returns-else-choice-eq6-clause-stops : goal.returns-else-choice-eq6-clause-stops
returns-else-choice-eq6-clause-stops g c =
    let last : c.args.choice ≡ 7 = search rules in
    on_err c.pass.result (λ stops. halts_as (script g) (halts_with_stage (script g) c.self.view_is stops) (λ cast opened earlier stage it. plays_pass cast (script g) (c.args.index + 1) c.args.choice stage last)) c.pass.ensures.stops
