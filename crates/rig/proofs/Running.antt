-- What is run for each client alone, one after the other. Lists of runs and of events have the newest first.
use Rattle.std.proofs.Common.{◌≡◌, ℕ, ◌+◌, Bool, true, if◌then◌else◌, List, [], ◌∷◌, ◌++◌, Option, Some, None, Result, Ok, Err, IfOk, OnOk, refl, ap, sym, ◌∙◌, subst, arith, append_assoc}
use Rattle.kit_bytes.specs.declared.kind.Kind.{Kind}
use Rattle.proxy_history.specs.Events.{Event}
use Rattle.proxy_history.specs.Proxy.{Proxy}
use Rattle.core_bench.specs.Runs.{Run}
use Rattle.rig_stage.specs.Running.{AreRecorded, Runs}
use Rattle.rig_play.specs.Runs.{run_of}
use Rattle.rig_trace.specs.Rows.{Reading, ledger_of}
use Rattle.rig_trace.specs.declared.rows.Counts.{Counts}
use Rattle.rig_trace.specs.declared.trace.Met.{Met}
use Rattle.rig_trace.specs.Trace.{trace_of}
use Rattle.rig_notes.specs.Alone.{RunsAlone}
use Rattle.rig.specs.Playing.{PlaysRig, RunsEach, RunsOne, is_equal, equal_of, run_alone, runs_alone}
use Rattle.rig.proofs.Down.{count-more, down-more}

pub if_ok : {T E : Type 0} {P Q : T → Type 0} (result : Result T E) → ((value : T) → P value → Q value) → IfOk result P → IfOk result Q
if_ok (Ok value) follows it = follows value it
if_ok (Err error) follows it = tt

pub then_ok : {T E : Type 0} {P : T → Type 0} {Q : Type 0} (result : Result T E) → ((value : T) → P value → Q) → IfOk result P → OnOk result Q
then_ok (Ok value) follows it = follows value it
then_ok (Err error) follows it = tt

-- some runs that a bench may have told
pub record HasEarlier (told : Option (List Run)) : Type 0 where
  pub earlier : List Run
  pub are_told : AreRecorded told earlier

pub has_earlier : (told : Option (List Run)) → HasEarlier told
has_earlier None = record { earlier = []; are_told = tt }
has_earlier (Some runs) = record { earlier = runs; are_told = refl }

module _ (reading : Reading) (p : Proxy) (kind : Kind) (trace : List Met) where
  -- ---- one client ----

  pub runs_one : {B : Type 0} (keeps : Proxy → List Event → B → Type 0) (tells : B → Option (List Run)) (c : ℕ) (told : Option (List Run)) (opened after : B) (same : Bool)
      → ((earlier : List Run) → AreRecorded told earlier → Runs keeps tells p (run_of kind []) earlier [] opened)
      → RunsAlone keeps tells reading c trace opened after same → RunsOne reading p kind trace c told (tells after) same
  runs_one keeps tells c told opened after same opens alone = record {
    told = let some = has_earlier told in alone.told p (run_of kind []) some.earlier (opens some.earlier some.are_told);
    runs = λ is earlier are_told. (alone.runs p (run_of kind []) earlier (opens earlier are_told) is).told;
  }

  -- ---- several ----

  pub none_runs : (told : Option (List Run)) → RunsEach reading p kind trace 0 told told 0
  none_runs told = record { counted = refl; runs = λ all earlier are_told. are_told }

  pub one_more_runs : (n equal c : ℕ) (same : Bool) (told between after : Option (List Run)) → 1 + n ≡ c → RunsEach reading p kind trace n told between equal → RunsOne reading p kind trace c between after same
      → RunsEach reading p kind trace (n + 1) told after (if same then equal + 1 else equal)
  one_more_runs n equal c same told between after is each one = record {
    counted =
        ap (λ b. if b then equal + 1 else equal) one.told ∙ ap (λ (k : ℕ). if is_equal reading p trace c then k + 1 else k) each.counted
        ∙ sym (count-more (is_equal reading p trace) n c is);
    runs = λ all earlier are_told.
        let before : AreRecorded between (runs_alone reading p kind trace n ++ earlier) = each.runs (λ d low high. all d low (omega (arith, high))) earlier are_told in
        let same_is : same ≡ true = one.told ∙ all c (omega (arith, is)) (omega (arith, is)) in
        subst (λ (runs : List Run). AreRecorded after (runs ++ earlier)) (sym (down-more (run_alone reading p kind trace) n c is)) (one.runs same_is (runs_alone reading p kind trace n ++ earlier) before);
  }

-- ---- all of them, and then each ----

pub plays_rig : (reading : Reading) (p : Proxy) (kind : Kind) (clients : ℕ) (events : List Event) (trace : List Met) (told between after : Option (List Run)) (counts : Counts) (equal : ℕ)
    → ((earlier : List Run) → AreRecorded told earlier → AreRecorded between (run_of kind events ∷ earlier)) → trace ≡ trace_of reading p events → counts ≡ (ledger_of reading p events).counts
    → RunsEach reading p kind trace clients between after equal → PlaysRig reading p kind clients events told after (record { counts = counts; equal = equal })
plays_rig reading p kind clients events trace told between after counts equal all is counted each = record {
  counts = counted;
  equal = each.counted ∙ ap (λ s. equal_of reading p s clients) is;
  runs = λ all_equal earlier are_told.
      let Each : List Met → Type 0 = λ s. RunsEach reading p kind s clients between after equal in
      let alone : List Run = runs_alone reading p kind (trace_of reading p events) clients in
      subst (AreRecorded after) (sym (append_assoc alone (run_of kind events ∷ []) earlier)) ((subst Each is each).runs all_equal (run_of kind events ∷ earlier) (all earlier are_told));
}
