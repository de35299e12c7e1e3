use Rattle.std.proofs.Common.{refl, ◌∙◌}
use Rattle.rig_runs.specs.Rig as rig
use Rattle.rig_stage.proofs.Stopping.{also_on_err, stops_here}
use Rattle.rig_play.specs.Play.{script_of}
use Rattle.rig_play.proofs.Taking.{opens_device}
use Rattle.rig_play.proofs.Halting.{open_more, ask_more, ask_unsaid, ask_unheard, first_stops, second_stops}
use Rattle.rig_play.proofs.opening.open_device.Goals as goal

pub returns-clause-acts : goal.returns-clause-acts
returns-clause-acts g c =
    let p = g.P.Protocol in
    opens_device c.args.conn c.as_slice.result.now c.as_slice-2.result.now p.first p.second p.asks p.FIRST_NUMBER (c.as_slice.ensures ∙ c.in_ok-first.ensures.message) (c.as_slice-2.ensures ∙ c.in_ok-second.ensures.message)
    c.in_ok-say.ensures.acts c.in_ok-all_arrive.ensures.acts c.in_ok-say-2.ensures.acts c.in_ok-all_arrive-2.ensures.acts

pub returns-in_err-first-clause-stops : goal.returns-in_err-first-clause-stops
returns-in_err-first-clause-stops g c =
    let p = g.P.Protocol in
    let script : rig.Script = script_of p.first p.second p.asks p.FIRST_NUMBER in
    also_on_err c.from_residual.result (stops_here c.args.bench.now (λ cast now. rig.open_device cast script now c.args.conn) (λ cast. open_more cast script c.args.conn))

pub returns-in_err-say-clause-stops : goal.returns-in_err-say-clause-stops
returns-in_err-say-clause-stops g c =
    let p = g.P.Protocol in
    also_on_err c.from_residual-in_err-say.result
    (first_stops c.args.conn p.first p.second p.asks p.FIRST_NUMBER c.as_slice.result.now (c.as_slice.ensures ∙ c.in_ok-first.ensures.message) (ask_unsaid c.args.conn c.as_slice.result.now c.in_err-say.ensures.stops))

pub returns-in_err-all_arrive-clause-stops : goal.returns-in_err-all_arrive-clause-stops
returns-in_err-all_arrive-clause-stops g c =
    let p = g.P.Protocol in
    also_on_err c.from_residual-in_err-all_arrive.result
    (first_stops c.args.conn p.first p.second p.asks p.FIRST_NUMBER c.as_slice.result.now (c.as_slice.ensures ∙ c.in_ok-first.ensures.message)
    (ask_unheard c.args.conn c.as_slice.result.now c.in_ok-say.ensures.acts c.in_err-all_arrive.ensures.stops))

pub returns-in_err-second-clause-stops : goal.returns-in_err-second-clause-stops
returns-in_err-second-clause-stops g c =
    let p = g.P.Protocol in
    also_on_err c.from_residual-in_err-second.result
    (second_stops c.args.conn p.first p.second p.asks p.FIRST_NUMBER c.as_slice.result.now p.second (c.as_slice.ensures ∙ c.in_ok-first.ensures.message) refl c.in_ok-say.ensures.acts c.in_ok-all_arrive.ensures.acts
    (stops_here c.all_arrive.new.bench (λ cast stage. rig.ask cast c.args.conn stage p.second) (λ cast. ask_more cast c.args.conn p.second)))

pub returns-in_err-say-2-clause-stops : goal.returns-in_err-say-2-clause-stops
returns-in_err-say-2-clause-stops g c =
    let p = g.P.Protocol in
    also_on_err c.from_residual-in_err-say-2.result
    (second_stops c.args.conn p.first p.second p.asks p.FIRST_NUMBER c.as_slice.result.now c.as_slice-2.result.now (c.as_slice.ensures ∙ c.in_ok-first.ensures.message) (c.as_slice-2.ensures ∙ c.in_ok-second.ensures.message)
    c.in_ok-say.ensures.acts c.in_ok-all_arrive.ensures.acts (ask_unsaid c.args.conn c.as_slice-2.result.now c.in_err-say-2.ensures.stops))

pub returns-in_err-all_arrive-2-clause-stops : goal.returns-in_err-all_arrive-2-clause-stops
returns-in_err-all_arrive-2-clause-stops g c =
    let p = g.P.Protocol in
    also_on_err c.from_residual-in_err-all_arrive-2.result
    (second_stops c.args.conn p.first p.second p.asks p.FIRST_NUMBER c.as_slice.result.now c.as_slice-2.result.now (c.as_slice.ensures ∙ c.in_ok-first.ensures.message) (c.as_slice-2.ensures ∙ c.in_ok-second.ensures.message)
    c.in_ok-say.ensures.acts c.in_ok-all_arrive.ensures.acts (ask_unheard c.args.conn c.as_slice-2.result.now c.in_ok-say-2.ensures.acts c.in_err-all_arrive-2.ensures.stops))
