use Rattle.std.proofs.Common.{ℕ, List, fold, length}
use Rattle.rig_runs.specs.Draws.{Turn, turns_after}
use Rattle.rig_runs.specs.Rig as rig
use Rattle.rig_runs.specs.Stage as defined
use Rattle.rig_stage.proofs.Stopping.{also_on_err, more_then, short_of_more}
use Rattle.rig_play.specs.Play.{cast_of, script_of}
use Rattle.rig_play.proofs.Halting.{plays_more, ended_more}
use Rattle.rig_play.proofs.players.play_all.Given.{Over}
use Rattle.rig_play.proofs.players.play_all.Goals as goal

pub returns-clause-runs : goal.returns-clause-runs
returns-clause-runs g c = λ opened earlier runs.
    let p = g.P.Protocol in
    let size = g.P.Modem.Framing.Framing.size in
    let cast : defined.Cast = cast_of p.proxy p.answers size c.args.clients in
    let script : rig.Script = script_of p.first p.second p.asks p.FIRST_NUMBER in
    let played : defined.Stage = fold (rig.play cast script) (rig.ready cast script) (turns_after (length cast.clients) c.args.turns c.args.number) in
    (c.in_ok-end.ensures.takes.plays cast opened earlier played (c.in_ok-take_turns.ensures.takes.plays cast opened earlier (rig.ready cast script) (c.in_ok-players.ensures.plays opened earlier runs))).stands.runs

abbrev script : Over → rig.Script
script g = script_of g.P.Protocol.first g.P.Protocol.second g.P.Protocol.asks g.P.Protocol.FIRST_NUMBER

abbrev cast : Over → ℕ → defined.Cast
cast g clients = cast_of g.P.Protocol.proxy g.P.Protocol.answers g.P.Modem.Framing.Framing.size clients

pub returns-in_err-players-clause-stops : goal.returns-in_err-players-clause-stops
returns-in_err-players-clause-stops g c =
    let now : defined.Cast = cast g c.args.clients in
    let turns : List Turn = turns_after (length now.clients) c.args.turns c.args.number in
    also_on_err c.from_residual.result
    (λ opened earlier runs.
    short_of_more (more_then (plays_more now (script g) turns (rig.ready now (script g))) (ended_more now (fold (rig.play now (script g)) (rig.ready now (script g)) turns))) (c.in_err-players.ensures.stops opened earlier runs))

pub returns-in_err-take_turns-clause-stops : goal.returns-in_err-take_turns-clause-stops
returns-in_err-take_turns-clause-stops g c =
    let now : defined.Cast = cast g c.args.clients in
    let played : defined.Stage = fold (rig.play now (script g)) (rig.ready now (script g)) (turns_after (length now.clients) c.args.turns c.args.number) in
    also_on_err c.from_residual-in_err-take_turns.result
    (λ opened earlier runs. short_of_more (ended_more now played) (c.in_err-take_turns.ensures.stops.cut_short now opened earlier (rig.ready now (script g)) (c.in_ok-players.ensures.plays opened earlier runs)))

pub returns-in_err-end-clause-stops : goal.returns-in_err-end-clause-stops
returns-in_err-end-clause-stops g c =
    let now : defined.Cast = cast g c.args.clients in
    let played : defined.Stage = fold (rig.play now (script g)) (rig.ready now (script g)) (turns_after (length now.clients) c.args.turns c.args.number) in
    also_on_err c.from_residual-in_err-end.result
    (λ opened earlier runs.
    c.in_err-end.ensures.stops.cut_short now opened earlier played (c.in_ok-take_turns.ensures.takes.plays now opened earlier (rig.ready now (script g)) (c.in_ok-players.ensures.plays opened earlier runs)))
