use Rattle.std.proofs.Common.{◌≡◌, fold}
use Rattle.std.specs.List.{range_with_len}
use Rattle.rig_runs.specs.Rig as rig
use Rattle.rig_stage.specs.Ready.{IsReady}
use Rattle.rig_stage.specs.Stage.{Acts}
use Rattle.rig_play.specs.Play.{script_of}
use Rattle.rig_play.proofs.opening.open_all.Given as goal

-- the first so many opened the device
abbrev pub invariant-loop-index : goal.invariant-loop-index
invariant-loop-index g l =
    let p = g.P.Protocol in
    record {
      acts : Acts g.B.Bench.keeps g.B.Bench.runs g.P.Modem.Sim.keeps g.P.Modem.Framing.Framing.size (λ cast now. fold (rig.open_device cast (script_of p.first p.second p.asks p.FIRST_NUMBER)) now (range_with_len 1 l.index)) l.initial.stage l.initial.bench l.stage l.bench;
      ready : IsReady (g.B.Bench.is_held l.bench) (g.B.Bench.face l.bench);
      clients : l.stage.clients ≡ l.initial.stage.clients;
      time : l.stage.time ≡ l.initial.stage.time;
    }
