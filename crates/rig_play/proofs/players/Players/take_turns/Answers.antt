use Rattle.std.proofs.Common.{ℕ, ◌+◌, ◌-◌, ◌<◌, ◌≤◌, fold, length, refl, ap, ◌∙◌, arith, rules}
use Rattle.rig_runs.specs.Draws.{turns_after}
use Rattle.rig_runs.specs.Rig as rig
use Rattle.rig_stage.proofs.Stopping.{also_on_err}
use Rattle.rig_play.specs.Play.{script_of}
use Rattle.rig_play.proofs.Turning.{turning_one, turning_done}
use Rattle.rig_play.proofs.Halting.{turning_stops}
use Rattle.rig_play.proofs.players.Players.take_turns.Given.{Over}
use Rattle.rig_play.proofs.players.Players.take_turns.Goals as goal

abbrev script : Over → rig.Script
script g = script_of g.P.Protocol.first g.P.Protocol.second g.P.Protocol.asks g.P.Protocol.FIRST_NUMBER

pub loop-turn-init : goal.loop-turn-init
loop-turn-init g c = record {
  turning = λ cast opened earlier stage it.
      record {
        now = stage;
        plays = it;
        rest =
            ap (λ n. fold (rig.play cast (script g)) stage (turns_after (length cast.clients) n c.from-draws.result.x)) (omega arith)
            ∙ ap (λ x. fold (rig.play cast (script g)) stage (turns_after (length cast.clients) c.args.turns x)) c.from-draws.ensures;
      };
  ready = c.requires.ready;
  clients = refl;
  numbers = c.requires.numbers;
  time = omega (arith, c.requires.time);
}

pub loop-turn-preserved : goal.loop-turn-preserved
loop-turn-preserved g c =
    let i = c.loop-turn.invariant in
    let took = c.in_ok-turn.ensures in
    let turn : ℕ = c.loop-turn._turn in
    let within : turn < c.args.turns = search rules in
    record {
      turning = λ cast opened earlier stage it.
          turning_one (script g) cast opened earlier (fold (rig.play cast (script g)) stage (turns_after (length cast.clients) c.args.turns c.args.number)) (c.args.turns - turn) (c.args.turns - (turn + 1)) c.loop-turn.draws.x
          c.turn.new.draws.x (omega (arith, within)) took.drawn took.takes (i.turning cast opened earlier stage it);
      ready = took.ready.ready;
      clients = took.clients ∙ i.clients;
      numbers = omega (arith, took.numbers, took.clients, i.numbers);
      time = omega (arith, took.time, i.time);
    }

pub returns-clause-takes : goal.returns-clause-takes
returns-clause-takes g c =
    let all : c.args.turns ≤ c.loop-turn._turn = search rules in
    record {
      plays = λ cast opened earlier stage it.
          turning_done (script g) cast opened earlier (fold (rig.play cast (script g)) stage (turns_after (length cast.clients) c.args.turns c.args.number)) (c.args.turns - c.loop-turn._turn) c.loop-turn.draws.x
          c.loop-turn.self c.loop-turn.bench (omega (arith, all)) (c.loop-turn.invariant.turning cast opened earlier stage it);
    }

pub returns-in_err-turn-clause-stops : goal.returns-in_err-turn-clause-stops
returns-in_err-turn-clause-stops g c =
    let turn : ℕ = c.loop-turn._turn in
    let within : turn < c.args.turns = search rules in
    also_on_err c.from_residual.result
    (record {
      cut_short = λ cast opened earlier stage it.
          turning_stops (script g) cast opened earlier (fold (rig.play cast (script g)) stage (turns_after (length cast.clients) c.args.turns c.args.number)) (c.args.turns - turn) (c.args.turns - (turn + 1)) c.loop-turn.draws.x
          (omega (arith, within)) c.in_err-turn.ensures.stops (c.loop-turn.invariant.turning cast opened earlier stage it);
    })
