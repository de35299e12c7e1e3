use Rattle.std.proofs.Common.{◌≡◌, ◌<◌, true, List, [], drop}
use Rattle.proxy_history.specs.Proxy.{Proxy}
use Rattle.core_bench.specs.Runs.{Run}
use Rattle.rig_stage.specs.Ready.{IsReady}
use Rattle.rig_stage.specs.Running.{Runs}
use Rattle.rig_notes.specs.Noting.{Keeps}
use Rattle.rig_notes.proofs.Meeting.{HasMet}
use Rattle.rig_notes.proofs.alone.run_alone.Given as goal

-- of the trace the client met its part so far
abbrev pub invariant-loop-met : goal.invariant-loop-met
invariant-loop-met g l = record {
  ready : IsReady (g.B.Bench.is_held l.bench.bench) (g.B.Bench.face l.bench.bench);
  new : l.fresh ≡ true → (g.B.Bench.face l.bench.bench).greatest < l.fn.conn;
  met : (p : Proxy) (opened : Run) (earlier : List Run) → Runs (Keeps g.R.Reading.reading g.B.Bench.keeps) (λ s. g.B.Bench.runs s.bench) p opened earlier [] l.initial.bench
      → HasMet (Keeps g.R.Reading.reading g.B.Bench.keeps) (λ s. g.B.Bench.runs s.bench) g.R.Reading.reading l.fn.conn l.fn.trace (drop l.met-index l.fn.trace) l.fresh p opened earlier l.bench;
}
