use Rattle.std.proofs.Common.{◌≡◌, List, drop}
use Rattle.core_bench.specs.Runs.{Run}
use Rattle.rig_runs.specs.Stage as rig
use Rattle.rig_stage.specs.Ready.{StaysReady}
use Rattle.rig_stage.specs.Stage.{Plays}
use Rattle.rig_stage.proofs.Arriving.{IsArriving}
use Rattle.rig_stage.proofs.stage.Stage.all_arrive.Given as goal

-- of the messages that were held the first so many arrived
abbrev pub invariant-loop-place : goal.invariant-loop-place
invariant-loop-place g l = record {
  arriving : (cast : rig.Cast) (opened : Run) (earlier : List Run) (stage : rig.Stage) → Plays g.B.Bench.keeps g.B.Bench.runs g.S.Sim.keeps g.S.Framing.Framing.size cast opened earlier stage l.initial.self l.initial.bench
      → IsArriving g.B.Bench.keeps g.B.Bench.runs g.S.Sim.keeps g.S.Framing.Framing.size cast opened earlier (rig.all_arrive cast stage) (drop l._place stage.held) l.self l.bench;
  ready : StaysReady (g.B.Bench.is_held l.bench) (g.B.Bench.face l.initial.bench) (g.B.Bench.face l.bench);
  clients : l.self.clients ≡ l.initial.self.clients;
  time : l.self.time ≡ l.initial.self.time;
}
