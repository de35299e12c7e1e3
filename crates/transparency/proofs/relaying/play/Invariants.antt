use Rattle.std.proofs.Common.{List, take, reverse}
use Rattle.core_bench.specs.Runs.{Run}
use Rattle.rig_stage.specs.Ready.{IsReady}
use Rattle.lone_client.specs.Relay.{begun, relayed}
use Rattle.transparency.specs.Peers.{cast_of}
use Rattle.transparency.specs.Relaying.{IsRelayed}
use Rattle.transparency.proofs.relaying.play.Given as goal

-- the first so many texts were relayed
abbrev pub invariant-loop-text : goal.invariant-loop-text
invariant-loop-text g l = record {
  ready : IsReady (g.B.Bench.is_held l.bench) (g.B.Bench.face l.bench);
  goes_on : (opened : Run) (earlier : List Run)
      → IsRelayed g.B.Bench.keeps g.B.Bench.runs g.S.Sim.keeps (cast_of g.S.Simulated.kind l.fn.device g.S.Framing.Framing.size (g.S.Simulated.answering l.fn.profile)) opened earlier begun l.initial.bench l.initial.sim
      → IsRelayed g.B.Bench.keeps g.B.Bench.runs g.S.Sim.keeps (cast_of g.S.Simulated.kind l.fn.device g.S.Framing.Framing.size (g.S.Simulated.answering l.fn.profile)) opened earlier
      (relayed (cast_of g.S.Simulated.kind l.fn.device g.S.Framing.Framing.size (g.S.Simulated.answering l.fn.profile)) (reverse (take l.text-index l.texts))) l.bench l.sim;
}
