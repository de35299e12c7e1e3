-- The pairs of events, and what covers them.
use Rattle.std.proofs.Common.{◌≡◌, ◌⊎◌, ℕ, zero, suc, ◌+◌, true, false, is_none, List, [], ◌∷◌, ◌++◌, length, take, drop, get_or, refl, arith, ap, sym, ◌∙◌, inl, inr, ⊎_elim, subst, Contains, None, ◌==◌}
use Rattle.std.proofs.Math.Seq.{drop-nil}
use Rattle.std.proofs.lemmas.Grind.{flat_map-append}
use Rattle.std.proofs.lemmas.List.{append-nil}
use Rattle.std.proofs.lemmas.List.Elements.{filter-append}
use Rattle.kit_bytes.specs.Subscriptions.{Pair, Subscription, pairs_of}
use Rattle.kit_bytes.proofs.Members.{Contains-cons, Contains-cons_cases, Contains-nil}
use Rattle.mbim_services.specs.EventLists.{IsEventAt, pairs_in}
use Rattle.mbim_services.proofs.Ranges.{single}
use Rattle.subscriptions.specs.Lists.{covers}
use Rattle.subscriptions.proofs.Covering.{AreCovered}
use Rattle.subscriptions.proofs.NormalForms.{all_covers, covers_cases}
use Rattle.subscribe_lists.specs.ClientLists.{services, singles}

-- ---- single CIDs ----

pub single_cases : (uuid cids : List ℕ) (q : Pair) → Contains (singles uuid cids) q → (cid : ℕ) × Contains cids cid × (single uuid cid ≡ q)
single_cases uuid [] q at = absurd (Contains-nil q at)
single_cases uuid (first ∷ cids) q at =
    ⊎_elim
    (λ (is : single uuid first ≡ q). (first, (zero, omega arith, refl), is))
    (λ (rest : Contains (singles uuid cids) q). let one = single_cases uuid cids q rest in (one.0, Contains-cons one.0 first cids one.1, one.2))
    (Contains-cons_cases q (single uuid first) (singles uuid cids) at)

pub singles_single : (uuid cids : List ℕ) (q : Pair) → Contains (singles uuid cids) q → is_none q.1 ≡ true → ⊥
singles_single uuid cids q at all = let one = single_cases uuid cids q at in let clash : false ≡ true = ap (λ (p : Pair). is_none p.1) one.2 ∙ all in absurd (cc)

-- ---- the pairs of an event ----

pub pair_cases : (uuid cids : List ℕ) (q : Pair) → Contains (pairs_of uuid cids) q → (q ≡ (uuid, None)) ⊎ ((cid : ℕ) × Contains cids cid × (single uuid cid ≡ q))
pair_cases uuid [] q at = ⊎_elim (λ (is : (uuid, None) ≡ q). inl (sym is)) (λ (rest : Contains [] q). absurd (Contains-nil q rest)) (Contains-cons_cases q (uuid, None) [] at)
pair_cases uuid (first ∷ cids) q at = inr (single_cases uuid (first ∷ cids) q at)

services_singles : (uuid cids : List ℕ) → services (singles uuid cids) ≡ []
services_singles uuid [] = refl
services_singles uuid (cid ∷ cids) = services_singles uuid cids

pub services_some : (uuid cids : List ℕ) → (length cids == 0) ≡ false → services (pairs_of uuid cids) ≡ []
services_some uuid [] some = absurd (cc)
services_some uuid (cid ∷ cids) some = services_singles uuid (cid ∷ cids)

-- ---- events ----

pub services_next : (events : List Subscription) (place : ℕ) (uuid cids : List ℕ) → IsEventAt events place uuid cids → services (pairs_in (drop place events)) ≡ services (pairs_of uuid cids) ++ services (pairs_in (drop (place + 1) events))
services_next events place uuid cids there = ap (λ (l : List Subscription). services (pairs_in l)) there ∙ filter-append (λ (p : Pair). is_none p.1) (pairs_of uuid cids) (pairs_in (drop (place + 1) events))

take_next : (events : List Subscription) (place : ℕ) (event : Subscription) (behind : List Subscription) → drop place events ≡ event ∷ behind → take (place + 1) events ≡ take place events ++ event ∷ []
take_next [] place event behind there = absurd (let none = sym (drop-nil place) ∙ there in cc)
take_next (first ∷ events) zero event behind there = ap (λ (l : List Subscription). get_or l 0 event ∷ []) there
take_next (first ∷ events) (suc place) event behind there =
    let next : suc place + 1 ≡ suc (place + 1) = omega arith in
    ap (λ (n : ℕ). take n (first ∷ events)) next ∙ ap (λ (l : List Subscription). first ∷ l) (take_next events place event behind there)

pub pairs_next : (events : List Subscription) (place : ℕ) (uuid cids : List ℕ) → IsEventAt events place uuid cids → pairs_in (take (place + 1) events) ≡ pairs_in (take place events) ++ pairs_of uuid cids
pairs_next events place uuid cids there =
    ap pairs_in (take_next events place (record { uuid = uuid; cids = cids }) (drop (place + 1) events) there)
    ∙ flat_map-append (λ (s : Subscription). pairs_of s.uuid s.cids) (take place events) (record { uuid = uuid; cids = cids } ∷ [])
    ∙ ap (λ (l : List Pair). pairs_in (take place events) ++ l) (append-nil (pairs_of uuid cids))

-- ---- covering ----

covers_then : (p q r : Pair) → covers p q ≡ true → covers q r ≡ true → covers p r ≡ true
covers_then p q r first second =
    ⊎_elim
    (λ (same : q ≡ r). subst (λ (s : Pair). covers p s ≡ true) same first)
    (λ (all : q ≡ (r.0, None)).
    ⊎_elim
    (λ (itself : p ≡ q). subst (λ (s : Pair). covers s r ≡ true) (sym (itself ∙ all)) (all_covers r.0 r refl))
    (λ (beside : p ≡ (q.0, None)). subst (λ (s : Pair). covers s r ≡ true) (sym (beside ∙ ap (λ (s : Pair). (s.0, None)) all)) (all_covers r.0 r refl))
    (covers_cases p q first))
    (covers_cases q r second)

pub covered_more : (xs ys zs : List Pair) → AreCovered xs ys → AreCovered ys zs → AreCovered xs zs
covered_more xs ys zs first second q at =
    let one = first q at in
    let other = second one.0 one.1 in
    (other.0, other.1, covers_then other.0 one.0 q other.2 one.2)
