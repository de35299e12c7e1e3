use Rattle.std.proofs.Common.{◌≡◌, fold}
use Rattle.std.specs.List.{range_with_len}
use Rattle.rig_runs.specs.Rig as rig
use Rattle.rig_stage.specs.Ready.{IsReady}
use Rattle.rig_stage.specs.Stage.{Acts}
use Rattle.rig_play.proofs.opening.join_all.Given as goal

-- the first so many joined
abbrev pub invariant-loop-index : goal.invariant-loop-index
invariant-loop-index g l = record {
  acts : Acts g.B.Bench.keeps g.B.Bench.runs g.S.Sim.keeps g.S.Framing.Framing.size (λ cast now. fold (rig.join cast) now (range_with_len 1 l.index)) l.initial.stage l.initial.bench l.stage l.bench;
  ready : IsReady (g.B.Bench.is_held l.bench) (g.B.Bench.face l.bench);
  greatest : (g.B.Bench.face l.bench).greatest ≡ l.index;
  clients : l.stage.clients ≡ l.initial.stage.clients;
  time : l.stage.time ≡ l.initial.stage.time;
}
