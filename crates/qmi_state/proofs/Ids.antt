-- The client ids that are held, in their order, are those of the history.
use Rattle.std.proofs.Common.{◌≡◌, ℕ, zero, Bool, true, false, not, cond, ◌&&◌, ◌||◌, ◌==◌, nat_lt, List, [], ◌∷◌, ◌++◌, filter, refl, ap, sym, ◌∙◌, subst, ⊎_elim, arith, Contains, Some, append-nil, if◌then◌else◌}
use Rattle.std.specs.List.{AllByRecursion}
use Rattle.std.proofs.lemmas.Bool.Decides.{nat_tests}
use Rattle.std.proofs.lemmas.Bool.{eqb-true, eq-eqb, and_parts, or_right}
use Rattle.std.proofs.lemmas.List.Elements.{filter-append, All-contains, All-weaker, All-contains_itself, recursion_from_All}
use Rattle.proxy_history.specs.Facts.{Fact, Ended, Granted, Freed, Reset, ModemLost}
use Rattle.proxy_history.specs.ClientIds.{Grant, is_of, held, holder, holder_in, holds_some}
use Rattle.proxy_history.specs.Sound.{IsSound, IsParty}
use Rattle.proxy_history.proofs.Lists.{Contains-cons, Contains-cons_cases, Contains-nil, Contains-filter, Contains-filter_from}
use Rattle.proxy_history.proofs.SoundLaws.{holders_are_parties}
use Rattle.qmi_proxy.specs.Limits.{qmi_limits}
use Rattle.holders.specs.Grants.{granted, is_before, is_behind}
use Rattle.qmi_state.specs.Traffic.{ids, kept_ids}
use Rattle.proxy_state.proofs.Filters.{filter_swap}
use Rattle.proxy_state.proofs.Rows.{both_ways}

-- the grants of one id
abbrev of : ℕ → ℕ → List Grant → List Grant
of service cid grants = filter (is_of service cid) grants

all_of : (service cid : ℕ) (Q : Grant → Type 0) → ((g : Grant) → is_of service cid g ≡ true → Q g) → (grants : List Grant) → AllByRecursion Q (of service cid grants)
all_of service cid Q h [] = tt
all_of service cid Q h (g ∷ grants) =
    let step : (b : Bool) → is_of service cid g ≡ b → AllByRecursion Q (cond b (g ∷ of service cid grants) (of service cid grants)) =
    λ b. elim b as (λ b. is_of service cid g ≡ b → AllByRecursion Q (cond b (g ∷ of service cid grants) (of service cid grants))) [
      | true ↦ λ e. (h g e, all_of service cid Q h grants)
      | false ↦ λ e. all_of service cid Q h grants
    ]
    in step (is_of service cid g) refl

same_filter : (p : Grant → Bool) (b : Bool) (grants : List Grant) → AllByRecursion (λ g. p g ≡ b) grants → filter p grants ≡ (if b then grants else [])
same_filter p true [] all = refl
same_filter p true (g ∷ grants) all = ap (λ (t : Bool). cond t (g ∷ filter p grants) (filter p grants)) all.0 ∙ ap (λ (l : List Grant). g ∷ l) (same_filter p true grants all.1)
same_filter p false [] all = refl
same_filter p false (g ∷ grants) all = ap (λ (t : Bool). cond t (g ∷ filter p grants) (filter p grants)) all.0 ∙ same_filter p false grants all.1

-- the grants of one id all pass a test of ids, or none does
tested : (s i : ℕ) (test : ℕ → ℕ → Bool) (grants : List Grant) → of s i (filter (λ g. test g.service g.cid) grants) ≡ (if test s i then of s i grants else [])
tested s i test grants =
    filter_swap (is_of s i) (λ (g : Grant). test g.service g.cid) grants
    ∙ same_filter (λ (g : Grant). test g.service g.cid) (test s i) (of s i grants)
    (all_of s i (λ g. test g.service g.cid ≡ test s i)
    (λ g e. let parts = and_parts (g.service == s) (g.cid == i) e in ap (λ (n : ℕ). test n g.cid) (eqb-true g.service s parts.0) ∙ ap (test s) (eqb-true g.cid i parts.1)) grants)

before_id : ℕ → ℕ → ℕ → ℕ → Bool
before_id service cid s i = nat_lt s service || (s == service && nat_lt i cid)

behind_id : ℕ → ℕ → ℕ → ℕ → Bool
behind_id service cid s i = nat_lt service s || (service == s && nat_lt cid i)

-- another id stands before it or behind it
one_side : (service cid s i : ℕ) → (service == s && (cid == i)) ≡ false → behind_id service cid s i ≡ not (before_id service cid s i)
unfolding before_id behind_id
one_side service cid s i other = grind (arith, nat_tests, other)

neither_side : (service cid s i : ℕ) → (service == s && (cid == i)) ≡ true → (before_id service cid s i ≡ false) × (behind_id service cid s i ≡ false)
unfolding before_id behind_id
neither_side service cid s i same =
    let parts = and_parts (service == s) (cid == i) same in
    let service_same : service ≡ s = eqb-true service s parts.0 in
    let client_same : cid ≡ i = eqb-true cid i parts.1 in
    (grind (arith, nat_tests, service_same, client_same), grind (arith, nat_tests, service_same, client_same))

granted_of : (s i c service cid : ℕ) (grants : List Grant)
    → of s i (granted c service cid grants) ≡ (if service == s && (cid == i) then record { conn = c; service = service; cid = cid } ∷ [] else of s i grants)
unfolding before_id behind_id
granted_of s i c service cid grants =
    let grant : Grant = record { conn = c; service = service; cid = cid } in
    let step : (same : Bool) → (service == s && (cid == i)) ≡ same
    → (if before_id service cid s i then of s i grants else []) ++ cond same (grant ∷ (if behind_id service cid s i then of s i grants else [])) (if behind_id service cid s i then of s i grants else []) ≡ (if same then grant ∷ [] else of s i grants) =
    λ same. elim same as (λ same. (service == s && (cid == i)) ≡ same
    → (if before_id service cid s i then of s i grants else []) ++ cond same (grant ∷ (if behind_id service cid s i then of s i grants else [])) (if behind_id service cid s i then of s i grants else []) ≡ (if same then grant ∷ [] else of s i grants)) [
      | true ↦ λ e. let none = neither_side service cid s i e in
          ap (λ (b : Bool). (if b then of s i grants else []) ++ grant ∷ (if behind_id service cid s i then of s i grants else [])) none.0
          ∙ ap (λ (b : Bool). grant ∷ (if b then of s i grants else [])) none.1
      | false ↦ λ e.
          ap (λ (b : Bool). (if before_id service cid s i then of s i grants else []) ++ (if b then of s i grants else [])) (one_side service cid s i e)
          ∙ elim (before_id service cid s i) as (λ b. (if b then of s i grants else []) ++ (if not b then of s i grants else []) ≡ of s i grants) [ true ↦ append-nil (of s i grants) | false ↦ refl ]
    ]
    in
    filter-append (is_of s i) (filter (is_before service cid) grants) (grant ∷ filter (is_behind service cid) grants)
    ∙ ap (λ (l : List Grant). l ++ of s i (grant ∷ filter (is_behind service cid) grants)) (tested s i (before_id service cid) grants)
    ∙ ap (λ (l : List Grant). (if before_id service cid s i then of s i grants else []) ++ cond (service == s && (cid == i)) (grant ∷ l) l) (tested s i (behind_id service cid) grants)
    ∙ step (service == s && (cid == i)) refl

-- in the history the newest grant is the last
granted_last_of : (s i c service cid : ℕ) (grants : List Grant)
    → of s i (filter (λ g. not (is_of service cid g)) grants ++ record { conn = c; service = service; cid = cid } ∷ []) ≡ (if service == s && (cid == i) then record { conn = c; service = service; cid = cid } ∷ [] else of s i grants)
granted_last_of s i c service cid grants =
    let grant : Grant = record { conn = c; service = service; cid = cid } in
    let other : ℕ → ℕ → Bool = λ (n : ℕ) (k : ℕ). not (n == service && (k == cid)) in
    let step : (same : Bool) → (service == s && (cid == i)) ≡ same → (if other s i then of s i grants else []) ++ cond same (grant ∷ []) [] ≡ (if same then grant ∷ [] else of s i grants) =
    λ same. elim same as (λ same. (service == s && (cid == i)) ≡ same → (if other s i then of s i grants else []) ++ cond same (grant ∷ []) [] ≡ (if same then grant ∷ [] else of s i grants)) [
      | true ↦ λ e. let swapped : other s i ≡ false = ap not (turned service cid s i ∙ e) in ap (λ (b : Bool). (if b then of s i grants else []) ++ grant ∷ []) swapped
      | false ↦ λ e. let swapped : other s i ≡ true = ap not (turned service cid s i ∙ e) in ap (λ (b : Bool). (if b then of s i grants else []) ++ []) swapped ∙ append-nil (of s i grants)
    ]
    in
    filter-append (is_of s i) (filter (λ (g : Grant). not (is_of service cid g)) grants) (grant ∷ [])
    ∙ ap (λ (l : List Grant). l ++ of s i (grant ∷ [])) (tested s i other grants)
    ∙ step (service == s && (cid == i)) refl
  where
    turned : (a b c d : ℕ) → (c == a && (d == b)) ≡ (a == c && (b == d))
    turned a b c d = ap (λ (t : Bool). t && (d == b)) (turn c a) ∙ ap (λ (t : Bool). a == c && t) (turn d b)
      where
        turn : (m n : ℕ) → (m == n) ≡ (n == m)
        turn m n = grind (arith, nat_tests)

-- ---- each id has the same grants ----

pub ids_of : (past : List Fact) (s i : ℕ) → of s i (ids past) ≡ of s i (held past)
unfolding ids kept_ids held
ids_of [] s i = refl
ids_of (Granted c service cid ∷ past) s i =
    granted_of s i c service cid (ids past)
    ∙ ap (λ (l : List Grant). if service == s && (cid == i) then record { conn = c; service = service; cid = cid } ∷ [] else l) (ids_of past s i)
    ∙ sym (granted_last_of s i c service cid (held past))
ids_of (Freed c service cid ∷ past) s i =
    filter_swap (is_of s i) (λ (g : Grant). not (is_of service cid g && (c == g.conn))) (ids past)
    ∙ ap (filter (λ (g : Grant). not (is_of service cid g && (c == g.conn)))) (ids_of past s i)
    ∙ filter_swap (λ (g : Grant). not (is_of service cid g && (c == g.conn))) (is_of s i) (held past)
ids_of (Ended c why ∷ past) s i =
    filter_swap (is_of s i) (λ (g : Grant). not (c == g.conn)) (ids past)
    ∙ ap (filter (λ (g : Grant). not (c == g.conn))) (ids_of past s i)
    ∙ filter_swap (λ (g : Grant). not (c == g.conn)) (is_of s i) (held past)
ids_of (Reset ∷ past) s i = refl
ids_of (ModemLost ∷ past) s i = refl
ids_of (_ ∷ past) s i = ids_of past s i

-- ---- so the holders are the same ----

holder_of_list : (s i : ℕ) (grants : List Grant) → holder_in s i grants ≡ holder_in s i (of s i grants)
holder_of_list s i [] = refl
holder_of_list s i (g ∷ grants) =
    let step : (b : Bool) → is_of s i g ≡ b → (if b then Some g.conn else holder_in s i grants) ≡ holder_in s i (cond b (g ∷ of s i grants) (of s i grants)) =
    λ b. elim b as (λ b. is_of s i g ≡ b → (if b then Some g.conn else holder_in s i grants) ≡ holder_in s i (cond b (g ∷ of s i grants) (of s i grants))) [
      | true ↦ λ e. sym (ap (λ (t : Bool). if t then Some g.conn else holder_in s i (of s i grants)) e)
      | false ↦ λ e. holder_of_list s i grants
    ]
    in step (is_of s i g) refl

pub holder_is : (s i : ℕ) (past : List Fact) → holder_in s i (ids past) ≡ holder s i past
holder_is s i past = holder_of_list s i (ids past) ∙ ap (holder_in s i) (ids_of past s i) ∙ sym (holder_of_list s i (held past))

is_of_itself : (g : Grant) → is_of g.service g.cid g ≡ true
is_of_itself g = ap (λ (b : Bool). b && (g.cid == g.cid)) (eq-eqb g.service g.service refl) ∙ eq-eqb g.cid g.cid refl

pub moved : (one other : List Grant) → ((s i : ℕ) → of s i one ≡ of s i other) → (g : Grant) → Contains one g → Contains other g
moved one other same g at =
    Contains-filter_from (is_of g.service g.cid) other g
    (subst (λ (l : List Grant). Contains l g) (same g.service g.cid) (Contains-filter (is_of g.service g.cid) one g at (is_of_itself g)))

held_one : (c s : ℕ) (grants : List Grant) → holds_some c s grants ≡ true → (g : Grant) × Contains grants g × ((g.conn == c && (g.service == s)) ≡ true)
held_one c s [] e = absurd (cc)
held_one c s (g ∷ grants) e =
    let step : (b : Bool) → (g.conn == c && (g.service == s)) ≡ b → (b || holds_some c s grants) ≡ true → (h : Grant) × Contains (g ∷ grants) h × ((h.conn == c && (h.service == s)) ≡ true) =
    λ b. elim b as (λ b. (g.conn == c && (g.service == s)) ≡ b → (b || holds_some c s grants) ≡ true → (h : Grant) × Contains (g ∷ grants) h × ((h.conn == c && (h.service == s)) ≡ true)) [
      | true ↦ λ is e. (g, (zero, omega arith, refl), is)
      | false ↦ λ is e. let found = held_one c s grants e in (found.0, Contains-cons found.0 g grants found.1, found.2)
    ]
    in step (g.conn == c && (g.service == s)) refl e

some_from : (c s : ℕ) (grants : List Grant) (g : Grant) → Contains grants g → (g.conn == c && (g.service == s)) ≡ true → holds_some c s grants ≡ true
some_from c s [] g at e = absurd (Contains-nil g at)
some_from c s (h ∷ grants) g at e =
    ⊎_elim
    (λ (is : h ≡ g). ap (λ (b : Bool). b || holds_some c s grants) (ap (λ (x : Grant). x.conn == c && (x.service == s)) is ∙ e))
    (λ (later : Contains grants g). or_right (h.conn == c && (h.service == s)) _ (some_from c s grants g later e)) (Contains-cons_cases g h grants at)

some_moved : (c s : ℕ) (one other : List Grant) → ((s i : ℕ) → of s i one ≡ of s i other) → holds_some c s one ≡ true → holds_some c s other ≡ true
some_moved c s one other same e = let found = held_one c s one e in some_from c s other found.0 (moved one other same found.0 found.1) found.2

pub some_is : (c s : ℕ) (past : List Fact) → holds_some c s (ids past) ≡ holds_some c s (held past)
some_is c s past =
    both_ways (holds_some c s (ids past)) (holds_some c s (held past)) (λ e. some_moved c s (ids past) (held past) (ids_of past) e) (λ e. some_moved c s (held past) (ids past) (λ s i. sym (ids_of past s i)) e)

pub ids_are_parties : (past : List Fact) → IsSound qmi_limits past → AllByRecursion (λ g. IsParty g.conn past) (ids past)
ids_are_parties past sound =
    recursion_from_All (λ (g : Grant). IsParty g.conn past) (ids past)
    (All-weaker (Contains (ids past)) (λ (g : Grant). IsParty g.conn past)
    (λ g at. All-contains (λ (h : Grant). IsParty h.conn past) (held past) g (holders_are_parties qmi_limits past sound) (moved (ids past) (held past) (ids_of past) g at))
    (ids past) (All-contains_itself (ids past)))
