-- What a running rig comes to where memory runs out. Lists of runs and of events have the newest first.
use Rattle.std.proofs.Common.{◌≡◌, ℕ, ◌+◌, ◌≤◌, List, [], ◌∷◌, ◌++◌, Option, ap, sym, subst, arith}
use Rattle.kit_bytes.specs.declared.kind.Kind.{Kind}
use Rattle.proxy_history.specs.Events.{Event}
use Rattle.proxy_history.specs.Proxy.{Proxy}
use Rattle.core_bench.specs.Runs.{Run}
use Rattle.rig_runs.specs.Counts.{Summary}
use Rattle.rig_stage.specs.Running.{AreRecorded}
use Rattle.rig_play.specs.Runs.{run_of, StopsEarly}
use Rattle.rig_trace.specs.declared.trace.Met.{Met}
use Rattle.rig_trace.specs.Rows.{Reading}
use Rattle.rig_trace.specs.Trace.{trace_of}
use Rattle.rig_trace.specs.Alone.{met_alone}
use Rattle.rig.specs.Begun.{TellsFirst, AddsFirst}
use Rattle.rig.specs.Playing.{AddsRuns, RunsEach, PlaysRig, run_alone, runs_alone}
use Rattle.rig.specs.Stopping.{StopsOne, StopsEach, StopsRig}
use Rattle.rig.specs.declared.text.Outcome.{Outcome}
use Rattle.rig.proofs.Down.{down, down-same}
use Rattle.rig.proofs.Begun.{tells_done, tells_next, tells_behind, next_of}
use Rattle.rig.proofs.Coming.{IsLawful, each_is_equal}

module _ (reading : Reading) (p : Proxy) (kind : Kind) where
  -- the first clients ran alone, and the next one didn't, or not to the end
  pub each_stops : (trace : List Met) (count c clients : ℕ) → 1 + count ≡ c → c ≤ clients → (old mid new : Option (List Run)) (equal : ℕ) → RunsEach reading p kind trace count old mid equal
      → StopsOne reading p kind trace c mid new → StopsEach reading p kind trace clients old new
  each_stops trace count c clients is within old mid new equal each one = record {
    runs = λ all earlier told.
        let alone : ℕ → Run = run_alone reading p kind trace in
        let done : List Run = down alone count in
        let ran : AreRecorded mid (done ++ earlier) = each.runs (λ d low high. all d low (omega (arith, high, is, within))) earlier told in
        let next : (later : List Run) × (down alone clients ≡ later ++ alone c ∷ done) = next_of alone count c clients is within in
        let it : TellsFirst (next.0 ++ alone c ∷ done) earlier new =
        tells_next (run_of kind []) (met_alone reading p c trace) next.0 done earlier new (one.runs (done ++ earlier) ran) in
        subst (λ runs. TellsFirst runs earlier new) (sym next.1) it;
  }

  module _ (clients : ℕ) (events : List Event) where
    abbrev alone : List Run
    alone = runs_alone reading p kind (trace_of reading p events) clients

    -- nothing was run
    pub none_runs : (old : Option (List Run)) → StopsRig reading p kind clients events old old
    none_runs old = record { runs = λ all earlier told. record { added = []; are_first = tt; told = told } }

    -- all clients together didn't run, or not to the end
    pub first_stops : (old new : Option (List Run)) → ((earlier : List Run) → AreRecorded old earlier → StopsEarly (run_of kind []) earlier events new) → StopsRig reading p kind clients events old new
    first_stops old new stops = record { runs = λ all earlier told. tells_next (run_of kind []) events alone [] earlier new (stops earlier told) }

    -- they did, and none ran alone
    pub first_runs : (old new : Option (List Run)) → AddsRuns old (run_of kind events ∷ []) new → StopsRig reading p kind clients events old new
    first_runs old new ran = record { runs = λ all earlier told. tells_done alone (run_of kind events ∷ []) earlier new (ran earlier told) }

    -- and some ran alone
    pub later_stop : (trace : List Met) (old mid new : Option (List Run)) → AddsRuns old (run_of kind events ∷ []) mid → ((earlier : List Run) → AreRecorded old earlier → trace ≡ trace_of reading p events)
        → StopsEach reading p kind trace clients mid new → StopsRig reading p kind clients events old new
    later_stop trace old mid new ran noted stops = record {
      runs = λ all earlier told.
          let same : StopsEach reading p kind (trace_of reading p events) clients mid new = subst (λ met. StopsEach reading p kind met clients mid new) (noted earlier told) stops in
          tells_behind alone (run_of kind events ∷ []) earlier new (same.runs all (run_of kind events ∷ earlier) (ran earlier told));
    }

    -- all was run
    pub all_run : (old new : Option (List Run)) (outcome : Outcome) → PlaysRig reading p kind clients events old new outcome → StopsRig reading p kind clients events old new
    all_run old new outcome plays = record { runs = λ all earlier told. tells_done [] (alone ++ run_of kind events ∷ []) earlier new (plays.runs all earlier told) }

module _ (reading : Reading) (p : Proxy) (kind : Kind) (solo : ℕ → List Event) (clients turns : ℕ) (events : List Event) (summary : Summary) (lawful : IsLawful reading p solo clients turns events summary) where
  -- where the laws hold, they are the first of the runs that are defined
  pub first_of_all : (old new : Option (List Run)) → StopsRig reading p kind clients events old new → AddsFirst old (down (λ c. run_of kind (solo c)) clients ++ run_of kind events ∷ []) new
  first_of_all old new stops earlier told =
      subst (λ (runs : List Run). TellsFirst (runs ++ run_of kind events ∷ []) earlier new)
      (down-same (run_alone reading p kind (trace_of reading p events)) (λ c. run_of kind (solo c)) clients (λ c low high. ap (run_of kind) (lawful.meets c low high)))
      (stops.runs (each_is_equal reading p kind solo clients turns events summary lawful) earlier told)
