-- Where an id stands in a list of grants that is in order, or would stand.
use Rattle.std.proofs.Common.{◌≡◌, not, ℕ, zero, suc, ◌+◌, ◌<◌, true, false, List, [], ◌∷◌, ◌++◌, length, take, drop, filter, get_or, set, refl, ap, ap₂, sym, ◌∙◌, arith, Some, None, ⊎_elim, ◌||◌, Bool, if◌then◌else◌}
use Rattle.std.proofs.lemmas.List.{get_or_default, set-get_or}
use Rattle.std.specs.List.{AllByRecursion, AllWithin, list_any, remove}
use Rattle.std.specs.List.Sorted.{IsPartitionedBy}
use Rattle.std.proofs.Math.Nat.{eq-or-lt_of_le}
use Rattle.std.proofs.lemmas.Bool.Decides.{nat_tests}
use Rattle.kit_bytes.specs.Sorted.{IsInOrder}
use Rattle.kit_bytes.proofs.Lists.{all_weaker, all_at, all_insert, all_set}
use Rattle.kit_bytes.proofs.Sorted.{in_order_at, partitioned, in_order_insert, in_order_set}
use Rattle.proxy_history.specs.ClientIds.{Grant, is_of, holder_in, holds_some}
use Rattle.holders.specs.Grants.{is_before, is_behind, is_of_service, IsAhead, AreInOrder, AreBytes, IsFoundAt, IsPlaceOf, granted}
use Rattle.holders.proofs.Order.{of_not_before, of_not_behind, before_not_of, before_not_behind, behind_not_of, behind_not_before, behind_else, is_of-is, before_of_behind, before_before, behind_both, behind_behind, kept_all, kept_none, few_ids}

-- ---- what a binary search finds ----

pub halved : (s i : ℕ) (grants : List Grant) → AreInOrder grants → IsPartitionedBy (is_before s i) grants
halved s i grants ordered = partitioned IsAhead (is_before s i) (λ g h ahead before. before_before s i g h ahead before) grants ordered

-- no grant that isn't before is of the id
pub place_none : (s i place : ℕ) (grants : List Grant) → place ≡ length grants → AllWithin (λ g. is_before s i g ≡ true) grants 0 place → IsPlaceOf s i grants place
place_none s i place grants all before = record {
  within = omega arith;
  before = before;
  behind = λ k d low high. absurd (omega arith);
}

pub place_other : (s i place : ℕ) (grants : List Grant) (row : Grant) → AreInOrder grants → place < length grants → row ≡ get_or grants place row → is_of s i row ≡ false → AllWithin (λ g. is_before s i g ≡ true) grants 0 place
    → AllWithin (λ g. is_before s i g ≡ false) grants place (length grants) → IsPlaceOf s i grants place
place_other s i place grants row ordered within is other before rest = record {
  within = omega arith;
  before = before;
  behind = λ k d low high. ⊎_elim
      (λ (same : place ≡ k). ap (λ (n : ℕ). is_behind s i (get_or grants n d)) (sym same) ∙ here d)
      (λ (less : place < k). behind_behind s i (get_or grants place d) (get_or grants k d) (here d) (in_order_at IsAhead grants place k d ordered less high))
      (eq-or-lt_of_le low);
}
  where
    row_at : (d : Grant) → get_or grants place d ≡ row
    row_at d = get_or_default grants place d row within ∙ sym is

    here : (d : Grant) → is_behind s i (get_or grants place d) ≡ true
    here d = behind_else s i (get_or grants place d) (rest place d (omega arith) within) (ap (is_of s i) (row_at d) ∙ other)

-- ---- the parts of a list behind its first grant ----

found_behind : (s i place : ℕ) (g : Grant) (grants : List Grant) → IsFoundAt s i (g ∷ grants) (suc place) → IsFoundAt s i grants place
found_behind s i place g grants found = record { within = omega (arith, found.within); is = found.is }

-- one that stands before a grant of the id
stands_before : (s i place : ℕ) (g : Grant) (grants : List Grant) → AreInOrder (g ∷ grants) → IsFoundAt s i (g ∷ grants) (suc place) → is_before s i g ≡ true
unfolding IsInOrder
stands_before s i place g grants ordered found =
    before_of_behind s i g (get_or grants place g) (all_at (λ h. is_behind g.service g.cid h ≡ true) grants place g ordered.0 (omega (arith, found.within))) (found.is g)

place_behind : (s i place : ℕ) (g : Grant) (grants : List Grant) → IsPlaceOf s i (g ∷ grants) (suc place) → IsPlaceOf s i grants place
place_behind s i place g grants at = record {
  within = omega (arith, at.within);
  before = λ k d low high. at.before (suc k) d (omega arith) (omega arith);
  behind = λ k d low high. at.behind (suc k) d (omega arith) (omega arith);
}

place_first : (s i : ℕ) (g : Grant) (grants : List Grant) → IsPlaceOf s i (g ∷ grants) 0 → IsPlaceOf s i grants 0
place_first s i g grants at = record {
  within = omega arith;
  before = λ k d low high. absurd (omega arith);
  behind = λ k d low high. at.behind (suc k) d (omega arith) (omega arith);
}

-- ---- the holder ----

pub found_holder : (s i place : ℕ) (grants : List Grant) (d : Grant) → AreInOrder grants → IsFoundAt s i grants place → holder_in s i grants ≡ Some (get_or grants place d).conn
unfolding IsInOrder
found_holder s i place [] d ordered found = absurd (omega (arith, found.within))
found_holder s i zero (g ∷ grants) d ordered found = rw (found.is d) refl
found_holder s i (suc place) (g ∷ grants) d ordered found =
    rw (before_not_of s i g (stands_before s i place g grants ordered found)) (found_holder s i place grants d ordered.1 (found_behind s i place g grants found))

pub absent_holder : (s i place : ℕ) (grants : List Grant) → IsPlaceOf s i grants place → holder_in s i grants ≡ None
absent_holder s i place [] at = refl
absent_holder s i zero (g ∷ grants) at = rw (behind_not_of s i g (at.behind 0 g (omega arith) (omega arith))) (absent_holder s i zero grants (place_first s i g grants at))
absent_holder s i (suc place) (g ∷ grants) at = rw (before_not_of s i g (at.before 0 g (omega arith) (omega arith))) (absent_holder s i place grants (place_behind s i place g grants at))

-- ---- granting ----

all_behind : (s i : ℕ) (grants : List Grant) → IsPlaceOf s i grants 0 → AllByRecursion (λ h. is_behind s i h ≡ true) grants
all_behind s i [] at = tt
all_behind s i (g ∷ grants) at = (at.behind 0 g (omega arith) (omega arith), all_behind s i grants (place_first s i g grants at))

-- ---- an id that is there no more ----

pub found_removed : (s i place : ℕ) (grants : List Grant) → AreInOrder grants → IsFoundAt s i grants place → remove grants place ≡ filter (λ g. not (is_of s i g)) grants
unfolding IsInOrder
found_removed s i place [] ordered found = absurd (omega (arith, found.within))
found_removed s i zero (g ∷ grants) ordered found =
    let of : is_of s i g ≡ true = found.is g in
    let others = all_weaker (λ h. is_behind g.service g.cid h ≡ true) (λ h. not (is_of s i h) ≡ true) (λ h behind. ap not (behind_not_of s i h (behind_both s i g h of behind))) grants ordered.0 in
    let all : filter (λ h. not (is_of s i h)) grants ≡ grants = kept_all (λ h. not (is_of s i h)) grants others in
    rw of (sym all)
found_removed s i (suc place) (g ∷ grants) ordered found =
    rw (before_not_of s i g (stands_before s i place g grants ordered found)) (ap (λ t. g ∷ t) (found_removed s i place grants ordered.1 (found_behind s i place g grants found)))

pub absent_removed : (s i place : ℕ) (grants : List Grant) → IsPlaceOf s i grants place → grants ≡ filter (λ g. not (is_of s i g)) grants
absent_removed s i place [] at = refl
absent_removed s i zero (g ∷ grants) at = rw (behind_not_of s i g (at.behind 0 g (omega arith) (omega arith))) (ap (λ t. g ∷ t) (absent_removed s i zero grants (place_first s i g grants at)))
absent_removed s i (suc place) (g ∷ grants) at = rw (before_not_of s i g (at.before 0 g (omega arith) (omega arith))) (ap (λ t. g ∷ t) (absent_removed s i place grants (place_behind s i place g grants at)))

-- the id has another number
pub found_set : (number s i place : ℕ) (grants : List Grant) (d : Grant) → AreInOrder grants → IsFoundAt s i grants place → set grants place (record { conn = number; service = s; cid = i }) ≡ granted number s i grants
unfolding IsInOrder
found_set number s i place [] d ordered found = absurd (omega (arith, found.within))
found_set number s i zero (g ∷ grants) d ordered found =
    let of : is_of s i g ≡ true = found.is d in
    let behind = all_weaker (λ h. is_behind g.service g.cid h ≡ true) (λ h. is_behind s i h ≡ true) (λ h behind. behind_both s i g h of behind) grants ordered.0 in
    let none : filter (is_before s i) grants ≡ [] = kept_none (is_before s i) grants (all_weaker (λ h. is_behind s i h ≡ true) (λ h. is_before s i h ≡ false) (λ h later. behind_not_before s i h later) grants behind) in
    let all : filter (is_behind s i) grants ≡ grants = kept_all (is_behind s i) grants behind in
    rw (of_not_before s i g of, of_not_behind s i g of, none, all) refl
found_set number s i (suc place) (g ∷ grants) d ordered found =
    let before = stands_before s i place g grants ordered found in
    rw (before, before_not_behind s i g before) (ap (λ t. g ∷ t) (found_set number s i place grants d ordered.1 (found_behind s i place g grants found)))

grant_is : (conn s i : ℕ) (g : Grant) → g.conn ≡ conn → is_of s i g ≡ true → g ≡ record { conn = conn; service = s; cid = i }
grant_is conn s i g same of =
    ap (λ (n : ℕ). let h : Grant = record { conn = n; service = g.service; cid = g.cid } in h) same
    ∙ ap₂ (λ (t j : ℕ). let h : Grant = record { conn = conn; service = t; cid = j } in h) (is_of-is s i g of).0 (is_of-is s i g of).1

-- the id of a connection stands somewhere
record Place (s i : ℕ) (grants : List Grant) : Type 0 where
  place : ℕ
  found : IsFoundAt s i grants place

found_first : (s i : ℕ) (g : Grant) (grants : List Grant) → is_of s i g ≡ true → Place s i (g ∷ grants)
found_first s i g grants of = record { place = 0; found = record { within = omega arith; is = λ d. of } }

found_later : (s i : ℕ) (g : Grant) (grants : List Grant) → Place s i grants → Place s i (g ∷ grants)
found_later s i g grants later = record { place = suc later.place; found = record { within = omega (arith, later.found.within); is = λ d. later.found.is d } }

place_of : (conn s i : ℕ) (grants : List Grant) → holder_in s i grants ≡ Some conn → Place s i grants
place_of conn s i [] held = absurd (cc)
place_of conn s i (g ∷ grants) held = decided (place_of conn s i grants) (is_of s i g) refl
  where
    decided : (holder_in s i grants ≡ Some conn → Place s i grants) → (of : Bool) → is_of s i g ≡ of → Place s i (g ∷ grants)
    decided later true of = found_first s i g grants of
    decided later false of = found_later s i g grants (later (sym (ap (λ (b : Bool). if b then Some g.conn else holder_in s i grants) of) ∙ held))

-- granting an id to the connection that holds it changes nothing
pub granted_again : (conn s i : ℕ) (grants : List Grant) → AreInOrder grants → holder_in s i grants ≡ Some conn → granted conn s i grants ≡ grants
granted_again conn s i grants ordered held =
    let at = place_of conn s i grants held in
    let new : Grant = record { conn = conn; service = s; cid = i } in
    let row : Grant = get_or grants at.place new in
    let holds : Some row.conn ≡ Some conn = sym (found_holder s i at.place grants new ordered at.found) ∙ held in
    let same : row.conn ≡ conn = cc in
    let is : row ≡ new = grant_is conn s i row same (at.found.is new) in
    sym (found_set conn s i at.place grants new ordered at.found) ∙ sym (ap (set grants at.place) is) ∙ set-get_or grants at.place new

before_same : (s i : ℕ) (g h new : Grant) → is_of s i g ≡ true → new.service ≡ s → new.cid ≡ i → IsAhead h g → IsAhead h new
before_same s i g h new of service cid ahead = grind (arith, nat_tests, of, service, cid, ahead)

behind_same : (s i : ℕ) (g h new : Grant) → is_of s i g ≡ true → new.service ≡ s → new.cid ≡ i → IsAhead g h → IsAhead new h
behind_same s i g h new of service cid ahead = grind (arith, nat_tests, of, service, cid, ahead)

pub ordered_set : (s i place : ℕ) (grants : List Grant) (new : Grant) → new.service ≡ s → new.cid ≡ i → AreInOrder grants → IsFoundAt s i grants place → AreInOrder (set grants place new)
ordered_set s i place grants new service cid ordered found =
    in_order_set IsAhead grants place new new (λ h ahead. behind_same s i (get_or grants place new) h new (found.is new) service cid ahead)
    (λ h ahead. before_same s i (get_or grants place new) h new (found.is new) service cid ahead) ordered

pub bytes_set : (place : ℕ) (grants : List Grant) (new : Grant) → AreBytes grants → new.service < 256 → new.cid < 256 → AreBytes (set grants place new)
bytes_set place grants new bytes service cid = all_set (λ g. (g.service < 256) × (g.cid < 256)) grants place new new (λ old. (service, cid)) bytes

pub absent_granted : (conn s i place : ℕ) (grants : List Grant) → IsPlaceOf s i grants place → granted conn s i grants ≡ take place grants ++ record { conn = conn; service = s; cid = i } ∷ drop place grants
absent_granted conn s i zero [] at = refl
absent_granted conn s i (suc place) [] at = refl
absent_granted conn s i zero (g ∷ grants) at =
    let behind = all_behind s i (g ∷ grants) at in
    let none : filter (is_before s i) (g ∷ grants) ≡ [] = kept_none (is_before s i) (g ∷ grants) (all_weaker (λ h. is_behind s i h ≡ true) (λ h. is_before s i h ≡ false) (λ h later. behind_not_before s i h later) (g ∷ grants) behind) in
    let all : filter (is_behind s i) (g ∷ grants) ≡ g ∷ grants = kept_all (is_behind s i) (g ∷ grants) behind in
    ap (λ (l : List Grant). l ++ record { conn = conn; service = s; cid = i } ∷ filter (is_behind s i) (g ∷ grants)) none ∙ ap (λ (l : List Grant). record { conn = conn; service = s; cid = i } ∷ l) all
absent_granted conn s i (suc place) (g ∷ grants) at =
    let before = at.before 0 g (omega arith) (omega arith) in
    rw (before, before_not_behind s i g before) (ap (λ t. g ∷ t) (absent_granted conn s i place grants (place_behind s i place g grants at)))

ahead_of_new : (s i : ℕ) (new g : Grant) → new.service ≡ s → new.cid ≡ i → is_before s i g ≡ true → IsAhead g new
ahead_of_new s i new g service cid before = grind (arith, nat_tests, service, cid, before)

behind_new : (s i : ℕ) (new g : Grant) → new.service ≡ s → new.cid ≡ i → is_behind s i g ≡ true → IsAhead new g
behind_new s i new g service cid behind = grind (arith, nat_tests, service, cid, behind)

pub inserted : (s i place : ℕ) (grants : List Grant) (new : Grant) → new.service ≡ s → new.cid ≡ i → AreInOrder grants → IsPlaceOf s i grants place → AreInOrder (take place grants ++ new ∷ drop place grants)
inserted s i place grants new service cid ordered at =
    in_order_insert IsAhead grants place new
    (λ k d low high. ahead_of_new s i new (get_or grants k d) service cid (at.before k d low high)) (λ k d low high. behind_new s i new (get_or grants k d) service cid (at.behind k d low high)) ordered

pub bytes_insert : (place : ℕ) (rows : List Grant) (new : Grant) → AreBytes rows → new.service < 256 → new.cid < 256 → AreBytes (take place rows ++ new ∷ drop place rows)
bytes_insert place rows new bytes service cid = all_insert (λ g. (g.service < 256) × (g.cid < 256)) rows place new bytes (service, cid)

length-insert : (place : ℕ) (rows : List Grant) (new : Grant) → length (take place rows ++ new ∷ drop place rows) ≡ length rows + 1
length-insert zero rows new = omega arith
length-insert (suc place) [] new = omega arith
length-insert (suc place) (g ∷ rows) new = omega (arith, length-insert place rows new)

-- an id that isn't there leaves room for itself
pub absent_room : (s i place : ℕ) (rows : List Grant) → AreInOrder rows → AreBytes rows → s < 256 → i < 256 → IsPlaceOf s i rows place → length rows < 65536
absent_room s i place rows ordered bytes service cid at =
    let new : Grant = record { conn = 0; service = s; cid = i } in
    omega (arith, length-insert place rows new, few_ids (take place rows ++ new ∷ drop place rows) (inserted s i place rows new refl refl ordered at) (bytes_insert place rows new bytes service cid))

-- ---- some id of a service ----

pub list_any-holds_some : (conn s : ℕ) (grants : List Grant) → list_any (is_of_service conn s) grants ≡ holds_some conn s grants
list_any-holds_some conn s [] = refl
list_any-holds_some conn s (g ∷ grants) = ap (λ b. is_of_service conn s g || b) (list_any-holds_some conn s grants)
