-- What a running rig comes to, as far as no protocol has a part in it. Lists of runs and of events have the newest first.
use Rattle.std.specs.Prelude.{◌≡◌, ℕ, ◌≤◌, Bool, true, List, [], ◌∷◌, ◌++◌, length, filter, map, reverse, Option}
use Rattle.std.specs.List.{range_with_len}
use Rattle.kit_bytes.specs.declared.kind.Kind.{Kind}
use Rattle.proxy_history.specs.Events.{Event}
use Rattle.proxy_history.specs.Proxy.{Proxy}
use Rattle.core_bench.specs.Runs.{Run}
use Rattle.rig_runs.specs.Counts.{Summary, lines_of}
use Rattle.rig_stage.specs.Running.{AreRecorded}
use Rattle.rig_play.specs.Runs.{run_of}
use Rattle.rig_trace.specs.Rows.{Reading, ledger_of}
use Rattle.rig_trace.specs.declared.trace.Met.{Met}
use Rattle.rig_trace.specs.Trace.{trace_of}
use Rattle.rig_trace.specs.Alone.{met_alone}
use Rattle.rig_notes.specs.Alone.{is_fit_alone}
use Rattle.rig.specs.declared.text.Outcome.{Outcome}

-- the bench tells these runs more
abbrev pub AddsRuns : Option (List Run) → List Run → Option (List Run) → Type 0
AddsRuns old runs new = (earlier : List Run) → AreRecorded old earlier → AreRecorded new (runs ++ earlier)

-- ---- clients that are alone ----

-- the run of a client alone
abbrev pub run_alone : Reading → Proxy → Kind → List Met → ℕ → Run
run_alone reading p kind trace c = run_of kind (met_alone reading p c trace)

-- those of so many, named from 1 on
abbrev pub runs_alone : Reading → Proxy → Kind → List Met → ℕ → List Run
runs_alone reading p kind trace clients = map (run_alone reading p kind trace) (reverse (range_with_len 1 clients))

-- what is the client's of a trace fits it alone
abbrev pub is_equal : Reading → Proxy → List Met → ℕ → Bool
is_equal reading p trace c = is_fit_alone reading p c [] trace

-- with how many of so many clients it is so
abbrev pub equal_of : Reading → Proxy → List Met → (clients : ℕ) → ℕ
equal_of reading p trace clients = length (filter (is_equal reading p trace) (range_with_len 1 clients))

-- it is so with each of them
abbrev pub AreEqual : Reading → Proxy → List Met → (clients : ℕ) → Type 0
AreEqual reading p trace clients = (c : ℕ) → 1 ≤ c → c ≤ clients → is_equal reading p trace c ≡ true

-- just where so it is with the client, it is told, and there is one more run
pub record RunsOne (reading : Reading) (p : Proxy) (kind : Kind) (trace : List Met) (c : ℕ) (old new : Option (List Run)) (same : Bool) : Type 0 where
  pub told : same ≡ is_equal reading p trace c
  pub runs : same ≡ true → AddsRuns old (run_alone reading p kind trace c ∷ []) new

-- those with whom it is so are counted, and there are so many more runs, where so it is with each
pub record RunsEach (reading : Reading) (p : Proxy) (kind : Kind) (trace : List Met) (clients : ℕ) (old new : Option (List Run)) (equal : ℕ) : Type 0 where
  pub counted : equal ≡ equal_of reading p trace clients
  pub runs : AreEqual reading p trace clients → AddsRuns old (runs_alone reading p kind trace clients) new

-- ---- the whole ----

-- these events were met, and then each client's part of them alone; the clients whom it fits are counted
pub record PlaysRig (reading : Reading) (p : Proxy) (kind : Kind) (clients : ℕ) (events : List Event) (old new : Option (List Run)) (outcome : Outcome) : Type 0 where
  pub counts : outcome.counts ≡ (ledger_of reading p events).counts
  pub equal : outcome.equal ≡ equal_of reading p (trace_of reading p events) clients
  pub runs : AreEqual reading p (trace_of reading p events) clients → AddsRuns old (runs_alone reading p kind (trace_of reading p events) clients ++ run_of kind events ∷ []) new

-- the summary of an outcome; nothing that a client of a rig meets tells of others, so all of them are counted
abbrev pub summed : (clients turns : ℕ) → Outcome → Summary
summed clients turns outcome = record {
  clients = clients;
  turns = turns;
  forwarded = outcome.counts.forwarded;
  answered = outcome.counts.answered;
  expired = outcome.counts.expired;
  late = outcome.counts.late;
  refused = outcome.counts.refused;
  equal = outcome.equal;
  counted = clients;
}

-- it was run, and these are the lines of its summary
pub record TellsRig (reading : Reading) (p : Proxy) (kind : Kind) (clients turns : ℕ) (events : List Event) (old new : Option (List Run)) (text : List ℕ) : Type 0 where
  pub outcome : Outcome
  pub plays : PlaysRig reading p kind clients events old new outcome
  pub lines : text ≡ lines_of (summed clients turns outcome)
