use Rattle.std.proofs.Common.{◌≡◌, ◌-◌, ◌*◌, ◌≤◌, List, fold, length}
use Rattle.core_bench.specs.Runs.{Run}
use Rattle.rig_runs.specs.Draws.{turns_after}
use Rattle.rig_runs.specs.Rig as rig
use Rattle.rig_runs.specs.Stage as defined
use Rattle.rig_stage.specs.Ready.{IsReady}
use Rattle.rig_play.specs.Play.{script_of, Plays}
use Rattle.rig_play.proofs.Turning.{IsTurning}
use Rattle.rig_play.proofs.players.Players.take_turns.Given as goal

-- the first so many turns were taken
abbrev pub invariant-loop-turn : goal.invariant-loop-turn
invariant-loop-turn g l =
    let p = g.P.Protocol in
    let script : rig.Script = script_of p.first p.second p.asks p.FIRST_NUMBER in
    record {
      turning : (cast : defined.Cast) (opened : Run) (earlier : List Run) (stage : defined.Stage) → Plays g.B.Bench.keeps g.B.Bench.runs g.P.Modem.Sim.keeps g.P.Modem.Framing.Framing.size script cast opened earlier stage l.initial.self l.initial.bench
          → IsTurning g.B.Bench.keeps g.B.Bench.runs g.P.Modem.Sim.keeps g.P.Modem.Framing.Framing.size script cast opened earlier
          (fold (rig.play cast script) stage (turns_after (length cast.clients) l.turns l.number)) (l.turns - l._turn) l.draws.x l.self l.bench;
      ready : IsReady (g.B.Bench.is_held l.bench) (g.B.Bench.face l.bench);
      clients : l.self.world.clients ≡ l.initial.self.world.clients;
      numbers : length l.self.numbers ≡ l.self.world.clients;
      time : l.self.world.time ≤ 1000 * l._turn;
    }
