use Rattle.std.proofs.Common.{◌≡◌, true, length}
use Rattle.rig_stage.specs.Running.{Moves}
use Rattle.rig_stage.proofs.running.hang_up.Given as goal

abbrev pub invariant-loop-dropped : goal.invariant-loop-dropped
invariant-loop-dropped g l = record {
  held : g.B.Bench.is_held l.bench ≡ true;
  greatest : (g.B.Bench.face l.bench).greatest ≡ (g.B.Bench.face l.initial.bench).greatest;
  met : Moves g.B.Bench.keeps g.B.Bench.runs (λ p past. past) l.initial.bench l.bench;
}

abbrev pub decreases-loop-dropped : goal.decreases-loop-dropped
decreases-loop-dropped g l = length (g.B.Bench.face l.bench).dropped
