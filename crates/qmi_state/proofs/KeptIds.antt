-- The ids that are kept, in their order, are those of the history.
use Rattle.std.proofs.Common.{◌≡◌, ◌⊎◌, ℕ, zero, Bool, true, false, not, ◌&&◌, ◌==◌, if◌then◌else◌, List, [], ◌∷◌, ◌++◌, filter, refl, ap, sym, ◌∙◌, subst, inl, inr, ⊎_elim, arith, Contains, Some, None}
use Rattle.std.specs.List.{AllByRecursion}
use Rattle.std.proofs.lemmas.Bool.Decides.{nat_tests}
use Rattle.std.proofs.lemmas.Bool.{eqb-true, and_parts}
use Rattle.std.proofs.lemmas.List.Elements.{All-contains, All-from_recursion, Contains-append_cases, Contains-append_left, Contains-append_right}
use Rattle.kit_bytes.proofs.Lists.{all_filter}
use Rattle.proxy_history.specs.Facts.{Fact, Ended, Granted, Reset, ModemLost}
use Rattle.proxy_history.specs.ClientIds.{Grant, KeptId, is_of, held, kept, kept_since, holder_in}
use Rattle.proxy_history.specs.Modem.{now}
use Rattle.proxy_history.proofs.Lists.{Contains-cons, Contains-cons_cases, Contains-nil, Contains-filter, Contains-filter_from, Contains-filter_passes}
use Rattle.proxy_history.proofs.Kept.{kept_are_nobodys}
use Rattle.holders.specs.Kept.{is_kept_of, is_kept_before, is_kept_behind, kept_from, all_kept_from}
use Rattle.qmi_state.specs.Traffic.{ids, kept_ids}
use Rattle.qmi_state.proofs.Ids.{ids_of, moved, holder_is}

abbrev entry : ℕ → Grant → KeptId
entry time g = record { service = g.service; cid = g.cid; since = time }

-- ---- one id is kept from a time on ----

-- another id stands before it or behind it
one_side : (service cid : ℕ) (k : KeptId) → is_kept_of service cid k ≡ false → is_kept_behind service cid k ≡ not (is_kept_before service cid k)
one_side service cid k other = grind (arith, nat_tests, other)

new_is_there : (time : ℕ) (g : Grant) (list : List KeptId) → Contains (kept_from time g list) (entry time g)
new_is_there time g list =
    Contains-append_right (filter (is_kept_before g.service g.cid) list) (entry time g ∷ filter (is_kept_behind g.service g.cid) list) (entry time g) (zero, omega arith, refl)

old_is_there : (time : ℕ) (g : Grant) (list : List KeptId) (k : KeptId) → Contains list k → is_kept_of g.service g.cid k ≡ false → Contains (kept_from time g list) k
old_is_there time g list k at other =
    let before : List KeptId = filter (is_kept_before g.service g.cid) list in
    let behind : List KeptId = filter (is_kept_behind g.service g.cid) list in
    let step : (b : Bool) → is_kept_before g.service g.cid k ≡ b → Contains (before ++ entry time g ∷ behind) k =
    λ b. elim b as (λ b. is_kept_before g.service g.cid k ≡ b → Contains (before ++ entry time g ∷ behind) k) [
      | true ↦ λ e. Contains-append_left before (entry time g ∷ behind) k (Contains-filter (is_kept_before g.service g.cid) list k at e)
      | false ↦ λ e.
          Contains-append_right before (entry time g ∷ behind) k
          (Contains-cons k (entry time g) behind (Contains-filter (is_kept_behind g.service g.cid) list k at (one_side g.service g.cid k other ∙ ap not e)))
    ]
    in step (is_kept_before g.service g.cid k) refl

there_as : (time : ℕ) (g : Grant) (list : List KeptId) (k : KeptId) → Contains (kept_from time g list) k → (entry time g ≡ k) ⊎ Contains list k
there_as time g list k at =
    ⊎_elim (λ before. inr (Contains-filter_from (is_kept_before g.service g.cid) list k before))
    (λ rest. ⊎_elim (λ is. inl is) (λ behind. inr (Contains-filter_from (is_kept_behind g.service g.cid) list k behind)) (Contains-cons_cases k (entry time g) (filter (is_kept_behind g.service g.cid) list) rest))
    (Contains-append_cases (filter (is_kept_before g.service g.cid) list) (entry time g ∷ filter (is_kept_behind g.service g.cid) list) k at)

same_entry : (time : ℕ) (g : Grant) (k : KeptId) → is_kept_of g.service g.cid k ≡ true → k.since ≡ time → entry time g ≡ k
same_entry time g k is since =
    let parts = and_parts (k.service == g.service) (k.cid == g.cid) is in
    ap (λ (n : ℕ). let l : KeptId = record { service = n; cid = g.cid; since = time } in l) (sym (eqb-true k.service g.service parts.0))
    ∙ ap (λ (n : ℕ). let l : KeptId = record { service = k.service; cid = n; since = time } in l) (sym (eqb-true k.cid g.cid parts.1))
    ∙ ap (λ (n : ℕ). let l : KeptId = record { service = k.service; cid = k.cid; since = n } in l) (sym since)

-- ---- several are ----

stays : (time : ℕ) (grants : List Grant) (list : List KeptId) (k : KeptId) → k.since ≡ time → Contains list k → Contains (all_kept_from time grants list) k
stays time [] list k since at = at
stays time (g ∷ grants) list k since at =
    let step : (b : Bool) → is_kept_of g.service g.cid k ≡ b → Contains (kept_from time g list) k =
    λ b. elim b as (λ b. is_kept_of g.service g.cid k ≡ b → Contains (kept_from time g list) k) [
      | true ↦ λ is. subst (Contains (kept_from time g list)) (same_entry time g k is since) (new_is_there time g list)
      | false ↦ λ other. old_is_there time g list k at other
    ]
    in stays time grants (kept_from time g list) k since (step (is_kept_of g.service g.cid k) refl)

new_are_there : (time : ℕ) (grants : List Grant) (list : List KeptId) (k : KeptId) → Contains (kept_since time grants) k → Contains (all_kept_from time grants list) k
new_are_there time [] list k at = absurd (Contains-nil k at)
new_are_there time (g ∷ grants) list k at =
    ⊎_elim
    (λ (is : entry time g ≡ k). stays time grants (kept_from time g list) k (ap (λ (l : KeptId). l.since) (sym is)) (subst (Contains (kept_from time g list)) is (new_is_there time g list)))
    (λ (rest : Contains (kept_since time grants) k). new_are_there time grants (kept_from time g list) k rest) (Contains-cons_cases k (entry time g) (kept_since time grants) at)

abbrev AreOthers : KeptId → List Grant → Type 0
AreOthers k grants = AllByRecursion (λ (g : Grant). is_kept_of g.service g.cid k ≡ false) grants

old_are_there : (time : ℕ) (grants : List Grant) (list : List KeptId) (k : KeptId) → AreOthers k grants → Contains list k → Contains (all_kept_from time grants list) k
old_are_there time [] list k others at = at
old_are_there time (g ∷ grants) list k others at = old_are_there time grants (kept_from time g list) k others.1 (old_is_there time g list k at others.0)

there_by : (time : ℕ) (grants : List Grant) (list : List KeptId) (k : KeptId) → Contains (all_kept_from time grants list) k → Contains (kept_since time grants) k ⊎ Contains list k
there_by time [] list k at = inr at
there_by time (g ∷ grants) list k at =
    ⊎_elim (λ new. inl (Contains-cons k (entry time g) (kept_since time grants) new))
    (λ old. ⊎_elim (λ is. inl (zero, omega arith, is)) (λ before. inr before) (there_as time g list k old)) (there_by time grants (kept_from time g list) k at)

-- ---- the same grants leave the same list ----

kept_one : (time : ℕ) (grants : List Grant) (g : Grant) → Contains grants g → Contains (kept_since time grants) (entry time g)
kept_one time [] g at = absurd (Contains-nil g at)
kept_one time (h ∷ grants) g at =
    ⊎_elim (λ (is : h ≡ g). (zero, omega arith, ap (entry time) is)) (λ (rest : Contains grants g). Contains-cons (entry time g) (entry time h) (kept_since time grants) (kept_one time grants g rest)) (Contains-cons_cases g h grants at)

kept_more : (time : ℕ) (one other : List Grant) → ((g : Grant) → Contains one g → Contains other g) → (k : KeptId) → Contains (kept_since time one) k → Contains (kept_since time other) k
kept_more time [] other within k at = absurd (Contains-nil k at)
kept_more time (g ∷ one) other within k at =
    ⊎_elim (λ (is : entry time g ≡ k). subst (Contains (kept_since time other)) is (kept_one time other g (within g (zero, omega arith, refl))))
    (λ (rest : Contains (kept_since time one) k). kept_more time one other (λ h there. within h (Contains-cons h g one there)) k rest) (Contains-cons_cases k (entry time g) (kept_since time one) at)

-- the grants of a connection
moved_of : (c : ℕ) (one other : List Grant) → ((g : Grant) → Contains one g → Contains other g) → (g : Grant) → Contains (filter (λ g. c == g.conn) one) g → Contains (filter (λ g. c == g.conn) other) g
moved_of c one other within g at =
    Contains-filter (λ (g : Grant). c == g.conn) other g (within g (Contains-filter_from (λ (g : Grant). c == g.conn) one g at)) (Contains-filter_passes (λ (g : Grant). c == g.conn) one g at)

-- ---- an id that nobody holds ----

none_of : (k : KeptId) (grants : List Grant) → holder_in k.service k.cid grants ≡ None → AreOthers k grants
none_of k [] none = tt
none_of k (g ∷ grants) none =
    let step : (b : Bool) → is_of k.service k.cid g ≡ b → (if b then Some g.conn else holder_in k.service k.cid grants) ≡ None → AreOthers k (g ∷ grants) =
    λ b. elim b as (λ b. is_of k.service k.cid g ≡ b → (if b then Some g.conn else holder_in k.service k.cid grants) ≡ None → AreOthers k (g ∷ grants)) [
      | true ↦ λ is clash. absurd (cc)
      | false ↦ λ other rest. (turned g.service k.service g.cid k.cid other, none_of k grants rest)
    ]
    in step (is_of k.service k.cid g) refl none
  where
    turned : (a b c d : ℕ) → (a == b && (c == d)) ≡ false → (b == a && (d == c)) ≡ false
    turned a b c d other = grind (arith, nat_tests, other)

others_held : (past : List Fact) (k : KeptId) → Contains (kept past) k → AreOthers k (ids past)
others_held past k at =
    none_of k (ids past)
    (holder_is k.service k.cid past
    ∙ All-contains (λ (l : KeptId). holder_in l.service l.cid (held past) ≡ None) (kept past) k (All-from_recursion (λ (l : KeptId). holder_in l.service l.cid (held past) ≡ None) (kept past) (kept_are_nobodys past)) at)

-- ---- so the same ids are kept ----

pub kept_from_ids : (past : List Fact) (k : KeptId) → Contains (kept_ids past) k → Contains (kept past) k
unfolding kept kept_ids
kept_from_ids [] k at = at
kept_from_ids (Granted c service cid ∷ past) k at =
    Contains-filter (λ (k : KeptId). not (is_kept_of service cid k)) (kept past) k (kept_from_ids past k (Contains-filter_from (λ (k : KeptId). not (is_kept_of service cid k)) (kept_ids past) k at))
    (Contains-filter_passes (λ (k : KeptId). not (is_kept_of service cid k)) (kept_ids past) k at)
kept_from_ids (Ended c why ∷ past) k at =
    ⊎_elim
    (λ new. Contains-append_right (kept past) _ k (kept_more (now past) (filter (λ g. c == g.conn) (ids past)) (filter (λ g. c == g.conn) (held past)) (moved_of c (ids past) (held past) (moved (ids past) (held past) (ids_of past))) k new))
    (λ old. Contains-append_left (kept past) _ k (kept_from_ids past k old)) (there_by (now past) (filter (λ g. c == g.conn) (ids past)) (kept_ids past) k at)
kept_from_ids (Reset ∷ past) k at = at
kept_from_ids (ModemLost ∷ past) k at = at
kept_from_ids (_ ∷ past) k at = kept_from_ids past k at

pub kept_to_ids : (past : List Fact) (k : KeptId) → Contains (kept past) k → Contains (kept_ids past) k
unfolding kept kept_ids
kept_to_ids [] k at = at
kept_to_ids (Granted c service cid ∷ past) k at =
    Contains-filter (λ (k : KeptId). not (is_kept_of service cid k)) (kept_ids past) k (kept_to_ids past k (Contains-filter_from (λ (k : KeptId). not (is_kept_of service cid k)) (kept past) k at))
    (Contains-filter_passes (λ (k : KeptId). not (is_kept_of service cid k)) (kept past) k at)
kept_to_ids (Ended c why ∷ past) k at =
    ⊎_elim (λ old. old_are_there (now past) (filter (λ g. c == g.conn) (ids past)) (kept_ids past) k (all_filter _ (λ g. c == g.conn) (ids past) (others_held past k old)) (kept_to_ids past k old))
    (λ new. new_are_there (now past) (filter (λ g. c == g.conn) (ids past)) (kept_ids past) k
    (kept_more (now past) (filter (λ g. c == g.conn) (held past)) (filter (λ g. c == g.conn) (ids past)) (moved_of c (held past) (ids past) (moved (held past) (ids past) (λ s i. sym (ids_of past s i)))) k new))
    (Contains-append_cases (kept past) _ k at)
kept_to_ids (Reset ∷ past) k at = at
kept_to_ids (ModemLost ∷ past) k at = at
kept_to_ids (_ ∷ past) k at = kept_to_ids past k at
