-- What a running rig comes to where memory runs out, as far as no protocol has a part in it. Lists of runs and of events have the newest first.
use Rattle.std.specs.Prelude.{ℕ, List, [], ◌∷◌, ◌++◌, Option}
use Rattle.kit_bytes.specs.declared.kind.Kind.{Kind}
use Rattle.proxy_history.specs.Events.{Event}
use Rattle.proxy_history.specs.Proxy.{Proxy}
use Rattle.core_bench.specs.Runs.{Run}
use Rattle.rig_stage.specs.Running.{AreRecorded}
use Rattle.rig_play.specs.Runs.{run_of, StopsEarly}
use Rattle.rig_trace.specs.Rows.{Reading}
use Rattle.rig_trace.specs.Trace.{trace_of}
use Rattle.rig_trace.specs.declared.trace.Met.{Met}
use Rattle.rig_trace.specs.Alone.{met_alone}
use Rattle.rig.specs.Begun.{AddsFirst}
use Rattle.rig.specs.Playing.{AreEqual, runs_alone}

-- there is no run more, or one that is cut short
pub record StopsOne (reading : Reading) (p : Proxy) (kind : Kind) (trace : List Met) (c : ℕ) (old new : Option (List Run)) : Type 0 where
  pub runs : (earlier : List Run) → AreRecorded old earlier → StopsEarly (run_of kind []) earlier (met_alone reading p c trace) new

-- where it is the same for each client, the runs more are those of the first
pub record StopsEach (reading : Reading) (p : Proxy) (kind : Kind) (trace : List Met) (clients : ℕ) (old new : Option (List Run)) : Type 0 where
  pub runs : AreEqual reading p trace clients → AddsFirst old (runs_alone reading p kind trace clients) new

-- the whole
pub record StopsRig (reading : Reading) (p : Proxy) (kind : Kind) (clients : ℕ) (events : List Event) (old new : Option (List Run)) : Type 0 where
  pub runs : AreEqual reading p (trace_of reading p events) clients → AddsFirst old (runs_alone reading p kind (trace_of reading p events) clients ++ run_of kind events ∷ []) new
