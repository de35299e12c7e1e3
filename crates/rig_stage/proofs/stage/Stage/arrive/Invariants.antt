use Rattle.std.proofs.Common.{◌≡◌, List, length}
use Rattle.core_bench.specs.Runs.{Run}
use Rattle.rig_runs.specs.Stage as rig
use Rattle.rig_stage.specs.Ready.{StaysReady}
use Rattle.rig_stage.specs.Stage.{Plays}
use Rattle.rig_stage.proofs.Arriving.{IsHearing}
use Rattle.rig_stage.proofs.stage.Stage.arrive.Given as goal

-- what is left of the message is still to be heard
abbrev pub invariant-loop-rest : goal.invariant-loop-rest
invariant-loop-rest g l = record {
  hearing : (cast : rig.Cast) (opened : Run) (earlier : List Run) (stage : rig.Stage) → Plays g.B.Bench.keeps g.B.Bench.runs g.S.Sim.keeps g.S.Framing.Framing.size cast opened earlier stage l.initial.self l.initial.bench
      → IsHearing g.B.Bench.keeps g.B.Bench.runs g.S.Sim.keeps g.S.Framing.Framing.size cast opened earlier (rig.arrive cast l.initial.rest stage) l.rest l.self l.bench;
  ready : StaysReady (g.B.Bench.is_held l.bench) (g.B.Bench.face l.initial.bench) (g.B.Bench.face l.bench);
  clients : l.self.clients ≡ l.initial.self.clients;
  time : l.self.time ≡ l.initial.self.time;
}

abbrev pub decreases-loop-rest : goal.decreases-loop-rest
decreases-loop-rest g l = length l.rest
