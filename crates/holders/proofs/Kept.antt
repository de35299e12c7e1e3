-- The ids that are kept, as rows: since when, which are due, and what each call makes of them.
use Rattle.std.proofs.Common.{◌≡◌, not, ℕ, ◌<◌, ◌≤◌, ◌-◌, Bool, true, false, cond, ◌&&◌, ◌||◌, ◌==◌, if◌then◌else◌, nat_lt, List, [], ◌∷◌, ◌++◌, map, filter, find, option_map, refl, ap, sym, ◌∙◌, subst, arith, ⊎_elim, Option, Some, None, Contains}
use Rattle.std.specs.List.{AllByRecursion}
use Rattle.std.proofs.lemmas.Bool.Decides.{nat_tests}
use Rattle.std.proofs.lemmas.Bool.{true≢false}
use Rattle.std.proofs.lemmas.List.{map-append}
use Rattle.kit_bytes.proofs.Lists.{all_weaker}
use Rattle.kit_bytes.specs.Sorted.{IsInOrder}
use Rattle.proxy_history.specs.ClientIds.{Grant, KeptId, is_of, holder_in, is_other}
use Rattle.proxy_history.proofs.Lists.{filter_map_is, Contains-cons, Contains-cons_cases, Contains-nil}
use Rattle.holders.specs.Grants.{AreInOrder, is_before, is_behind, granted}
use Rattle.holders.specs.Kept.{Ids, kept_without, held_unless, held_by, is_kept_of, is_kept_before, is_kept_behind, since_in, kept_from, all_kept_from, is_due, FirstDue}
use Rattle.holders.specs.Rows.{kept_of, id_of, is_old, all_granted}
use Rattle.holders.proofs.Places.{granted_again}

pub since_is : (s i : ℕ) (rows : List Grant) → holder_in s i rows ≡ since_in s i (map kept_of rows)
since_is s i [] = refl
since_is s i (g ∷ rows) = ap (λ (t : Option ℕ). if is_of s i g then Some g.conn else t) (since_is s i rows)

-- ---- what each call makes of them ----

pub kept_granted : (time : ℕ) (g : Grant) (rows : List Grant) → map kept_of (granted time g.service g.cid rows) ≡ kept_from time g (map kept_of rows)
kept_granted time g rows =
    map-append kept_of (filter (is_before g.service g.cid) rows) (record { conn = time; service = g.service; cid = g.cid } ∷ filter (is_behind g.service g.cid) rows)
    ∙ ap (λ (l : List KeptId). l ++ map kept_of (record { conn = time; service = g.service; cid = g.cid } ∷ filter (is_behind g.service g.cid) rows)) (sym (filter_map_is (is_kept_before g.service g.cid) kept_of rows))
    ∙ ap (λ (l : List KeptId). filter (is_kept_before g.service g.cid) (map kept_of rows) ++ record { service = g.service; cid = g.cid; since = time } ∷ l) (sym (filter_map_is (is_kept_behind g.service g.cid) kept_of rows))

pub all_kept_granted : (time : ℕ) (grants rows : List Grant) → map kept_of (all_granted time grants rows) ≡ all_kept_from time grants (map kept_of rows)
all_kept_granted time [] rows = refl
all_kept_granted time (g ∷ grants) rows = all_kept_granted time grants (granted time g.service g.cid rows) ∙ ap (all_kept_from time grants) (kept_granted time g rows)

-- the id is kept no more
pub kept_no_more : (s i : ℕ) (held rows others : List Grant) (ids : Ids) → record { held = held; kept = map kept_of rows } ≡ ids → others ≡ filter (λ g. not (is_of s i g)) rows
    → record { held = held; kept = map kept_of others } ≡ record ids { kept = kept_without s i ids.kept }
kept_no_more s i held rows others ids is without =
    ap (λ (l : List KeptId). let v : Ids = record { held = held; kept = l } in v) (ap (map kept_of) without ∙ sym (filter_map_is (λ k. not (is_kept_of s i k)) kept_of rows))
    ∙ ap (λ (v : Ids). record v { kept = kept_without s i v.kept }) is

-- ---- the grant of an id that nobody holds, that another connection holds, or that the connection itself holds ----

pub held_by_none : (conn s i : ℕ) (ids : Ids) → holder_in s i ids.held ≡ None → held_unless false conn s i ids ≡ held_by conn s i ids
held_by_none conn s i ids none = sym (ap (λ (h : Option ℕ). held_unless (is_other conn h) conn s i ids) none)

pub held_by_other : (conn s i d : ℕ) (ids : Ids) → holder_in s i ids.held ≡ Some d → (d ≡ conn → ⊥) → ids ≡ held_by conn s i ids
held_by_other conn s i d ids held other =
    let is : is_other conn (Some d) ≡ true = grind (arith, nat_tests, other) in
    sym (ap (λ (b : Bool). held_unless b conn s i ids) (ap (is_other conn) held ∙ is))

pub held_by_itself : (conn s i : ℕ) (ids : Ids) → holder_in s i ids.held ≡ Some conn → AreInOrder ids.held → record ids { kept = kept_without s i ids.kept } ≡ held_by conn s i ids
held_by_itself conn s i ids held ordered =
    let free : is_other conn (Some conn) ≡ false = grind (arith, nat_tests) in
    sym (ap (λ (b : Bool). held_unless b conn s i ids) (ap (is_other conn) held ∙ free) ∙ ap (λ (l : List Grant). record ids { held = l; kept = kept_without s i ids.kept }) (granted_again conn s i ids.held ordered held))

-- ---- which are due ----

-- where the oldest isn't due none is
pub none_due : (oldest after time : ℕ) (rows : List Grant) → AllByRecursion (λ g. oldest ≤ g.conn) rows → time - oldest < after → (k : KeptId) → Contains (map kept_of rows) k → is_due after time k ≡ false
none_due oldest after time [] all early k at = absurd (Contains-nil k at)
none_due oldest after time (g ∷ rows) all early k at =
    ⊎_elim
    (λ (is : kept_of g ≡ k).
    let from : oldest ≤ g.conn = all.0 in
    let here : is_due after time (kept_of g) ≡ false = grind (arith, nat_tests, from, early) in
    subst (λ (l : KeptId). is_due after time l ≡ false) is here)
    (λ (rest : Contains (map kept_of rows) k). none_due oldest after time rows all.1 early k rest)
    (Contains-cons_cases k (kept_of g) (map kept_of rows) at)

itself_not_before : (s i : ℕ) → (nat_lt s s || (s == s && nat_lt i i)) ≡ false
itself_not_before s i = grind (arith, nat_tests)

behind_not_before : (s i a b : ℕ) → (nat_lt s a || (s == a && nat_lt i b)) ≡ true → (nat_lt a s || (a == s && nat_lt b i)) ≡ false
behind_not_before s i a b behind = grind (arith, nat_tests, behind)

-- an element of the list, told from one of the rows
from_row : (P : KeptId → Type 0) (rows : List Grant) → AllByRecursion (λ g. P (kept_of g)) rows → (k : KeptId) → Contains (map kept_of rows) k → P k
from_row P [] all k at = absurd (Contains-nil k at)
from_row P (g ∷ rows) all k at =
    ⊎_elim (λ (is : kept_of g ≡ k). subst P is all.0) (λ (rest : Contains (map kept_of rows) k). from_row P rows all.1 k rest) (Contains-cons_cases k (kept_of g) (map kept_of rows) at)

due_later : (after time : ℕ) (g : Grant) (rows : List Grant) (found : Option (ℕ × ℕ)) → is_old after time g ≡ false → FirstDue after time (map kept_of rows) found → FirstDue after time (kept_of g ∷ map kept_of rows) found
due_later after time g rows None early none = λ k at.
    ⊎_elim (λ (is : kept_of g ≡ k). subst (λ (l : KeptId). is_due after time l ≡ false) is early) (λ (rest : Contains (map kept_of rows) k). none k rest) (Contains-cons_cases k (kept_of g) (map kept_of rows) at)
due_later after time g rows (Some id) early first = record {
  since = first.since;
  at = Contains-cons _ (kept_of g) (map kept_of rows) first.at;
  due = first.due;
  first = λ k at due. ⊎_elim
      (λ (is : kept_of g ≡ k). absurd (true≢false (sym due ∙ subst (λ (l : KeptId). is_due after time l ≡ false) is early)))
      (λ (rest : Contains (map kept_of rows) k). first.first k rest due)
      (Contains-cons_cases k (kept_of g) (map kept_of rows) at);
}

pub first_is_due : (after time : ℕ) (rows : List Grant) → AreInOrder rows → FirstDue after time (map kept_of rows) (option_map id_of (find (is_old after time) rows))
unfolding IsInOrder
first_is_due after time [] ordered = λ k at. absurd (Contains-nil k at)
first_is_due after time (g ∷ rows) ordered =
    let step : (b : Bool) → is_old after time g ≡ b → FirstDue after time (kept_of g ∷ map kept_of rows) (option_map id_of (cond b (Some g) (find (is_old after time) rows))) =
    λ b. elim b as (λ b. is_old after time g ≡ b → FirstDue after time (kept_of g ∷ map kept_of rows) (option_map id_of (cond b (Some g) (find (is_old after time) rows)))) [
      | true ↦ λ old. record {
        since = g.conn;
        at = (0, omega arith, refl);
        due = old;
        first = λ k at due. ⊎_elim
            (λ (is : kept_of g ≡ k). subst (λ (l : KeptId). is_kept_before g.service g.cid l ≡ false) is (itself_not_before g.service g.cid))
            (λ (rest : Contains (map kept_of rows) k). from_row (λ l. is_kept_before g.service g.cid l ≡ false) rows (all_weaker (λ h. is_behind g.service g.cid h ≡ true) (λ h. is_before g.service g.cid h ≡ false) (λ h behind. behind_not_before g.service g.cid h.service h.cid behind) rows ordered.0) k rest)
            (Contains-cons_cases k (kept_of g) (map kept_of rows) at);
      }
      | false ↦ λ early. due_later after time g rows (option_map id_of (find (is_old after time) rows)) early (first_is_due after time rows ordered.1)
    ]
    in step (is_old after time g) refl
