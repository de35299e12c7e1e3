use Rattle.std.specs.List.{range_with_len}
use Rattle.rig_runs.specs.Stage as rig
use Rattle.rig_stage.specs.Ready.{StaysReady}
use Rattle.rig_stage.specs.Running.{Moves}
use Rattle.rig_stage.proofs.running.clients_take.Given as goal

-- the first so many took what waited
abbrev pub invariant-loop-index : goal.invariant-loop-index
invariant-loop-index g l = record {
  ready : StaysReady (g.B.Bench.is_held l.bench) (g.B.Bench.face l.initial.bench) (g.B.Bench.face l.bench);
  met : Moves g.B.Bench.keeps g.B.Bench.runs (λ p past. rig.clients_take p (range_with_len 1 l.index) past) l.initial.bench l.bench;
}
