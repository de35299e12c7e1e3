-- Which children are left.
use Rattle.std.proofs.Common.{◌≡◌, ℕ, zero, Bool, true, false, not, ◌||◌, ◌==◌, List, [], ◌∷◌, ◌++◌, All, Contains, refl, ap, sym, ◌∙◌, rules, arith, subst, cond, append_assoc}
use Rattle.std.proofs.lemmas.List.{append-nil}
use Rattle.std.proofs.lemmas.List.Elements.{All-nil, All-cons, Contains-append_right}
use Rattle.std.proofs.lemmas.Bool.Decides.{Decides-eqb}
use Rattle.std.specs.List.{flat_map, list_any}
use Rattle.kit_bytes.proofs.Members.{Contains-cons}
use Rattle.child_io.specs.Calls.{Call, Started, StartFailed, Ended, EndFailed, Stopped}
use Rattle.child_io.specs.Alive.{alive, sees_end_of}
use Rattle.sim_supervision.specs.Supervision.{Run, run_calls, FailsToRun, EndsSupervision}
use Rattle.sim_supervision.specs.Supervision as supervision
use Rattle.sim_supervision.specs.Laws.{FailedStopsAloneLeaveModems}
use Rattle.sim_supervision.specs.declared.supervision.SupervisionEnd.{SupervisionEnd}

-- ---- children whose end was seen ----

alive-run : (words : List (List ℕ)) (run : Run) (later : List Call) → alive (run_calls words run ++ later) ≡ alive later
alive-run words run later =
    ap (λ seen. cond (not (seen || list_any (sees_end_of run.child) later)) (run.child ∷ []) [] ++ alive later) ((Decides-eqb run.child run.child).1 refl)

alive-runs : (words : List (List ℕ)) (runs : List Run) (later : List Call) → alive (flat_map (run_calls words) runs ++ later) ≡ alive later
alive-runs words [] later = refl
alive-runs words (run ∷ runs) later =
    ap alive (append_assoc (run_calls words run) (flat_map (run_calls words) runs) later)
    ∙ alive-run words run (flat_map (run_calls words) runs ++ later)
    ∙ alive-runs words runs later

-- ---- the last one ----

-- a stop of each of these failed, among these calls
abbrev HasFailedStop : List Call → ℕ → Type 0
HasFailedStop calls child = Contains calls (Stopped child false 0)

left_by_stop : (words : List (List ℕ)) (child : ℕ) (stopped : Bool)
    → All (HasFailedStop (Started words child ∷ EndFailed child ∷ Stopped child stopped 0 ∷ [])) (alive (Started words child ∷ EndFailed child ∷ Stopped child stopped 0 ∷ []))
left_by_stop words child true =
    let calls = Started words child ∷ EndFailed child ∷ Stopped child true 0 ∷ [] in
    subst (λ seen. All (HasFailedStop calls) (cond (not (false || (seen || false))) (child ∷ []) [] ++ [])) (sym ((Decides-eqb child child).1 refl)) (All-nil (HasFailedStop calls))
left_by_stop words child false =
    let calls = Started words child ∷ EndFailed child ∷ Stopped child false 0 ∷ [] in
    All-cons (HasFailedStop calls) child []
    (Contains-cons (Stopped child false 0) (Started words child) (EndFailed child ∷ Stopped child false 0 ∷ [])
    (Contains-cons (Stopped child false 0) (EndFailed child) (Stopped child false 0 ∷ []) (zero, omega arith, refl)))
    (All-nil (HasFailedStop calls))

left_by_failed : (words : List (List ℕ)) (calls : List Call) → FailsToRun words calls → All (HasFailedStop calls) (alive calls)
left_by_failed words calls (supervision.not_started is) = rw is (All-nil (HasFailedStop (StartFailed words ∷ [])))
left_by_failed words calls (supervision.not_ended child stopped is) = rw is (left_by_stop words child stopped)

left_by_last : (words : List (List ℕ)) (most before : ℕ) (end : SupervisionEnd) (calls : List Call) → EndsSupervision words most before end calls → All (HasFailedStop calls) (alive calls)
left_by_last words most before end calls (supervision.ended run last is_end is) =
    subst (λ l. All (HasFailedStop l) (alive l)) (sym is) (subst (All (HasFailedStop (run_calls words run))) (sym (alive-run words run [])) (All-nil (HasFailedStop (run_calls words run))))
left_by_last words most before end calls (supervision.failed fails is_end) = left_by_failed words calls fails

-- ---- all of them ----

all_later : (earlier later : List Call) (left : List ℕ) → All (HasFailedStop later) left → All (HasFailedStop (earlier ++ later)) left
all_later earlier later left all = λ place default within. Contains-append_right earlier later _ (all place default within)

pub failed_stops_alone_leave_modems : FailedStopsAloneLeaveModems
failed_stops_alone_leave_modems words most end calls keeps =
    let earlier = flat_map (run_calls words) keeps.earlier in
    subst (λ l. All (HasFailedStop l) (alive l)) (sym keeps.whole)
    (subst (All (HasFailedStop (earlier ++ keeps.last))) (sym (alive-runs words keeps.earlier keeps.last))
    (all_later earlier keeps.last (alive keeps.last) (left_by_last words most _ end keeps.last keeps.ends)))
