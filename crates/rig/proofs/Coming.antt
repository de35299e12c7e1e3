-- What a running rig comes to where the laws of its trace and of its ledger hold. Lists of runs and of events have the newest first.
use Rattle.std.proofs.Common.{◌≡◌, ℕ, ◌≤◌, List, [], ◌∷◌, ◌++◌, Option, ap, sym, ◌∙◌, subst}
use Rattle.kit_bytes.specs.declared.kind.Kind.{Kind}
use Rattle.proxy_history.specs.Events.{Event}
use Rattle.proxy_history.specs.Proxy.{Proxy}
use Rattle.core_bench.specs.Runs.{Run}
use Rattle.rig_runs.specs.Counts.{Summary, lines_of}
use Rattle.rig_play.specs.Runs.{run_of}
use Rattle.rig_trace.specs.declared.rows.Counts.{Counts}
use Rattle.rig_trace.specs.Rows.{Reading, ledger_of}
use Rattle.rig_trace.specs.Trace.{trace_of}
use Rattle.rig_trace.specs.Alone.{met_alone, IsSameAlone}
use Rattle.rig_trace.specs.Laws.{Counted}
use Rattle.rig_notes.proofs.Fitting.{TakesWhatWaits, same_alone_fits}
use Rattle.rig.specs.Playing.{AddsRuns, AreEqual, TellsRig, is_equal, run_alone, summed}
use Rattle.rig.specs.declared.text.Outcome.{Outcome}
use Rattle.rig.proofs.Down.{count-all, down, down-same}

-- the laws of one rig
pub record IsLawful (reading : Reading) (p : Proxy) (solo : ℕ → List Event) (clients turns : ℕ) (events : List Event) (summary : Summary) : Type 0 where
  -- each client meets its part, and takes the same bytes alone
  pub meets : (c : ℕ) → 1 ≤ c → c ≤ clients → met_alone reading p c (trace_of reading p events) ≡ solo c
  pub same : (c : ℕ) → 1 ≤ c → c ≤ clients → IsSameAlone reading p c [] (trace_of reading p events)
  pub takes : (c : ℕ) → 1 ≤ c → c ≤ clients → TakesWhatWaits p (solo c)
  -- the summary
  pub counts : Counted (ledger_of reading p events).counts summary
  pub its_clients : summary.clients ≡ clients
  pub its_turns : summary.turns ≡ turns
  pub equal : summary.equal ≡ clients
  pub counted : summary.counted ≡ clients

same_summary : (clients turns : ℕ) (outcome : Outcome) (counts : Counts) (summary : Summary) → outcome.counts ≡ counts → outcome.equal ≡ clients → Counted counts summary
    → summary.clients ≡ clients → summary.turns ≡ turns → summary.equal ≡ clients → summary.counted ≡ clients → summed clients turns outcome ≡ summary
same_summary clients turns outcome counts summary are equal_are same its_clients its_turns equal counted =
    let summary_of : Counts → (clients turns equal counted : ℕ) → Summary = λ k clients turns equal counted. record {
      clients = clients;
      turns = turns;
      forwarded = k.forwarded;
      answered = k.answered;
      expired = k.expired;
      late = k.late;
      refused = k.refused;
      equal = equal;
      counted = counted;
    } in
    let forwarded = same.forwarded in
    let answered = same.answered in
    let expired = same.expired in
    let late = same.late in
    let refused = same.refused in
    let step : summary_of counts clients turns outcome.equal clients ≡ record {
      clients = summary.clients;
      turns = summary.turns;
      forwarded = summary.forwarded;
      answered = summary.answered;
      expired = summary.expired;
      late = summary.late;
      refused = summary.refused;
      equal = summary.equal;
      counted = summary.counted;
    } = cc in
    ap (λ (k : Counts). summary_of k clients turns outcome.equal clients) are ∙ step

module _ (reading : Reading) (p : Proxy) (kind : Kind) (solo : ℕ → List Event) (clients turns : ℕ) (events : List Event) (summary : Summary) (lawful : IsLawful reading p solo clients turns events summary) where
  pub each_is_equal : AreEqual reading p (trace_of reading p events) clients
  each_is_equal c low high = same_alone_fits reading p c (trace_of reading p events) (lawful.same c low high) (subst (TakesWhatWaits p) (sym (lawful.meets c low high)) (lawful.takes c low high))

  module _ (old new : Option (List Run)) (lines : List ℕ) (tells : TellsRig reading p kind clients turns events old new lines) where
    pub all_runs : AddsRuns old (down (λ c. run_of kind (solo c)) clients ++ run_of kind events ∷ []) new
    all_runs =
        subst (λ (runs : List Run). AddsRuns old (runs ++ run_of kind events ∷ []) new)
        (down-same (run_alone reading p kind (trace_of reading p events)) (λ c. run_of kind (solo c)) clients (λ c low high. ap (run_of kind) (lawful.meets c low high)))
        (tells.plays.runs each_is_equal)

    pub the_lines : lines ≡ lines_of summary
    the_lines =
        tells.lines
        ∙ ap lines_of
        (same_summary clients turns tells.outcome (ledger_of reading p events).counts summary tells.plays.counts
        (tells.plays.equal ∙ count-all (is_equal reading p (trace_of reading p events)) clients each_is_equal) lawful.counts lawful.its_clients lawful.its_turns lawful.equal lawful.counted)
