-- One child that is started and waited for.
use Rattle.std.proofs.Common.{◌≡◌, ℕ, ℤ, Bool, true, false, not, ◌==◌, cond, List, [], ◌∷◌, ◌++◌, length, map, Option, Result, Ok, Err, OnOk, OnErr, refl, ap, sym, ◌∙◌, arith, subst}
use Rattle.std.proofs.lemmas.Bool.Decides.{Decides-eqb}
use Rattle.kit_io.specs.Growth.{Grows}
use Rattle.kit_io.specs.declared.faults.Failed.{Failed}
use Rattle.kit_io.proofs.Growth.{Grows-append}
use Rattle.child_io.specs.Calls.{Call, Started, StartFailed, Ended, EndFailed, Stopped, end_call}
use Rattle.child_io.specs.Kids.{Try, stops, StopsEach, without}
use Rattle.sim_supervision.specs.Supervision as supervision
use Rattle.sim_supervision.specs.Once.{GrowsLike, IsEnd, IsRun}

-- ---- the stops of no child, and of one ----

no_stops : (after : ℕ) (tries : List Try) → map (λ try. try.child) tries ≡ [] → stops after tries ≡ []
no_stops after [] is = refl
no_stops after (try ∷ tries) is = absurd (omega (arith, ap length is))

one_stop : (after : ℕ) (tries : List Try) (child : ℕ) → map (λ try. try.child) tries ≡ child ∷ [] → (stopped : Bool) × (stops after tries ≡ Stopped child stopped after ∷ [])
one_stop after [] child is = absurd (omega (arith, ap length is))
one_stop after (try ∷ []) child is =
    let same : try.child ≡ child = cc in (try.ok, ap (λ c. Stopped c try.ok after ∷ []) same)
one_stop after (try ∷ other ∷ more) child is = absurd (omega (arith, ap length is))

none_without : (child : ℕ) → without child (child ∷ []) ≡ []
none_without child = ap (λ seen. cond (not seen) (child ∷ []) []) ((Decides-eqb child child).1 refl)

-- ---- how a child ends ----

module _ {F : Type 0} {stopped : Result (Unit {0}) F} {old mid new : Option (List Call)} where
  -- it ended, or it is stopped
  pub ended_or_stopped : {E : Type 0} (child : ℕ) (result : Result ℤ E) (before kept : List ℕ) → before ≡ child ∷ [] → OnOk result (kept ≡ without child before) → OnErr result (kept ≡ before)
      → Grows old (end_call child result ∷ []) mid → StopsEach kept 0 mid stopped new → GrowsLike (IsEnd child result) old new
  ended_or_stopped child (Ok status) before kept is ok err ends each = record {
    calls = Ended child status ∷ [];
    are = refl;
    grows = subst (λ l. Grows old (Ended child status ∷ l) new) (no_stops 0 each.tries (each.each ∙ ok ∙ ap (without child) is ∙ none_without child)) (Grows-append ends each.grows);
  }
  ended_or_stopped child (Err e) before kept is ok err ends each =
      let last = one_stop 0 each.tries child (each.each ∙ err ∙ is) in
      record {
        calls = EndFailed child ∷ Stopped child last.0 0 ∷ [];
        are = (last.0, refl);
        grows = subst (λ l. Grows old (EndFailed child ∷ l) new) last.1 (Grows-append ends each.grows);
      }

  -- it couldn't be started
  pub run_not : (words : List (List ℕ)) (e : Failed) (kept : List ℕ) → kept ≡ [] → Grows old (StartFailed words ∷ []) mid → StopsEach kept 0 mid stopped new → GrowsLike (IsRun words (Err e)) old new
  run_not words e kept is starts each = record {
    calls = StartFailed words ∷ [];
    are = supervision.not_started refl;
    grows = subst (λ l. Grows old (StartFailed words ∷ l) new) (no_stops 0 each.tries (each.each ∙ is)) (Grows-append starts each.grows);
  }

module _ {old mid new : Option (List Call)} (words : List (List ℕ)) (child : ℕ) (starts : Grows old (Started words child ∷ []) mid) where
  -- it was started
  pub run_of : {E : Type 0} (result : Result ℤ E) → GrowsLike (IsEnd child result) mid new → GrowsLike (IsRun words result) old new
  run_of (Ok status) ends = record {
    calls = Started words child ∷ ends.calls;
    are = (child, ap (λ l. Started words child ∷ l) ends.are);
    grows = Grows-append starts ends.grows;
  }
  run_of (Err e) ends = record {
    calls = Started words child ∷ ends.calls;
    are = supervision.not_ended child ends.are.0 (ap (λ l. Started words child ∷ l) ends.are.1);
    grows = Grows-append starts ends.grows;
  }
