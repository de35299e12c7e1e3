-- A list is in normal form once it is sorted and what the last pair kept covers is removed.
use Rattle.std.proofs.Common.{◌≡◌, ◌⊎◌, ℕ, zero, suc, ◌<◌, Bool, true, false, cond, is_none, List, [], ◌∷◌, length, get_or, refl, ap, sym, ◌∙◌, inl, inr, ⊎_elim, subst, arith, Contains, Option, Some, None}
use Rattle.std.specs.declared.cmp.Ordering.{Ordering}
use Rattle.std.specs.declared.cmp.Ordering.TheVariants.{Less, Equal, Greater}
use Rattle.std.specs.Ordering.{nat_cmp, is_lt, ordering_then, ordering_reverse}
use Rattle.std.specs.Option.{option_cmp}
use Rattle.std.specs.Cmp.Lexicographic.{slice_cmp}
use Rattle.std.specs.List.{dedup, dedup_from}
use Rattle.std.specs.List.Sorted.{IsPermutation, IsSorted}
use Rattle.std.proofs.lemmas.Cmp.{nat_list_cmp_total, tied_itself}
use Rattle.std.proofs.lemmas.Map.Lookups.{exact_bytes}
use Rattle.std.proofs.lemmas.List.Kept.{Contains-from_dedup}
use Rattle.std.proofs.lemmas.List.Sorted.{Contains-permutation, IsPermutation-sym, ranks_by, sorted_far}
use Rattle.kit_bytes.specs.Sorted.{IsInOrder}
use Rattle.kit_bytes.specs.Subscriptions.{Pair, pair_cmp, normal_form}
use Rattle.kit_bytes.proofs.Lists.{all_from, all_weaker}
use Rattle.kit_bytes.proofs.Members.{Contains-cons, Contains-cons_cases, Contains-nil}
use Rattle.kit_bytes.proofs.Pairs.{exact_pair, pair_cmp_total}
use Rattle.subscriptions.specs.Lists.{AreInOrder, covers}
use Rattle.subscriptions.proofs.Order.{greater_less, less_greater, before_behind, all_of, one_of, first_of}
use Rattle.subscriptions.proofs.NormalForms.{IsFree, is_normal_form, normal_in_order, normal_from, normal_free, normal_has, covers_cases, covers_same, all_covers, all_is}

-- ---- sorted lists ----

-- the other pair doesn't stand before this one
abbrev IsNotBehind : Pair → Pair → Type 0
IsNotBehind pair other = is_lt (pair_cmp other pair) ≡ false

abbrev AreSorted : List Pair → Type 0
AreSorted pairs = IsInOrder IsNotBehind pairs

order_from : (R : Pair → Pair → Type 0) (xs : List Pair) → ((j k : ℕ) (d : Pair) → j < k → k < length xs → R (get_or xs j d) (get_or xs k d)) → IsInOrder R xs
unfolding IsInOrder
order_from R [] each = tt
order_from R (x ∷ xs) each = (
  all_from (R x) xs (λ k d within. each 0 (suc k) d (omega arith) (omega (arith, within))),
  order_from R xs (λ j k d less within. each (suc j) (suc k) d (omega (arith, less)) (omega (arith, within))),
)

pub are_sorted : (xs : List Pair) → IsSorted pair_cmp xs → AreSorted xs
are_sorted xs sorted =
    order_from IsNotBehind xs (λ j k d less within. sorted_far (λ x y. is_lt (pair_cmp x y)) (ranks_by pair_cmp_total (λ (p : Pair). p)) xs sorted j k d (omega (arith, less)) within)

same_or_before : (p q : Pair) → IsNotBehind p q → (p ≡ q) ⊎ (pair_cmp p q ≡ Less)
same_or_before p q e = by (pair_cmp q p) refl e
  where
    by : (r : Ordering) → pair_cmp q p ≡ r → is_lt r ≡ false → (p ≡ q) ⊎ (pair_cmp p q ≡ Less)
    by Less is e = absurd (cc)
    by Equal is e = inl (sym (exact_pair q p is))
    by Greater is e = inr (greater_less q p is)

-- all CIDs of a service stand before its single ones
none_first : (cid : Option ℕ) → is_none cid ≡ false → option_cmp nat_cmp None cid ≡ Less
none_first None e = absurd (cc)
none_first (Some n) e = refl

all_first : (q : Pair) → is_none q.1 ≡ false → pair_cmp (q.0, None) q ≡ Less
all_first q single = ap (λ (r : Ordering). ordering_then r (option_cmp nat_cmp None q.1)) (tied_itself nat_list_cmp_total q.0) ∙ none_first q.1 single

-- what stands between two pairs of one service is of that service
between : (uuid : List ℕ) (x q : Pair) (cid : Option ℕ) → uuid ≡ q.0 → pair_cmp (uuid, cid) x ≡ Less → (x ≡ q) ⊎ (pair_cmp x q ≡ Less) → uuid ≡ x.0
between uuid x q cid same low high = ⊎_elim (λ (is : x ≡ q). same ∙ ap (λ (p : Pair). p.0) (sym is)) (λ (less : pair_cmp x q ≡ Less). by (slice_cmp nat_cmp uuid x.0) refl low less) high
  where
    by : (r : Ordering) → slice_cmp nat_cmp uuid x.0 ≡ r → ordering_then r (option_cmp nat_cmp cid x.1) ≡ Less → pair_cmp x q ≡ Less → uuid ≡ x.0
    by Less is low less =
        let back : slice_cmp nat_cmp x.0 q.0 ≡ Greater = ap (slice_cmp nat_cmp x.0) (sym same) ∙ nat_list_cmp_total.antisymm x.0 uuid ∙ ap ordering_reverse is in
        let clash : Greater ≡ Less = sym (ap (λ (r : Ordering). ordering_then r (option_cmp nat_cmp x.1 q.1)) back) ∙ less in
        absurd (cc)
    by Equal is low less = exact_bytes uuid x.0 is
    by Greater is low less = absurd (cc)

-- ---- what is kept ----

abbrev kept_from : Pair → List Pair → List Pair
kept_from k xs = dedup_from (λ x last. covers last x) k xs

kept_first : (k : Pair) (xs : List Pair) → Contains (kept_from k xs) k
kept_first k [] = first_of k []
kept_first k (x ∷ xs) = by (covers k x) (kept_first k xs)
  where
    by : (b : Bool) → Contains (kept_from k xs) k → Contains (cond b (kept_from k xs) (k ∷ kept_from x xs)) k
    by true others = others
    by false others = first_of k (kept_from x xs)

kept_of : (k : Pair) (xs : List Pair) (q : Pair) → Contains (kept_from k xs) q → Contains (k ∷ xs) q
kept_of k xs q at = Contains-from_dedup (λ x last. covers last x) (k ∷ xs) q at

-- the second goes
without_second : (k x : Pair) (xs : List Pair) → AreSorted (k ∷ x ∷ xs) → AreSorted (k ∷ xs)
unfolding IsInOrder
without_second k x xs sorted = (sorted.0.1, sorted.1.1)

apart : (k x : Pair) (xs : List Pair) → AreSorted (k ∷ x ∷ xs) → covers k x ≡ false → pair_cmp k x ≡ Less
unfolding IsInOrder
apart k x xs sorted e = ⊎_elim (λ (is : k ≡ x). let clash : true ≡ false = sym (covers_same k x is) ∙ e in absurd (cc)) (λ (less : pair_cmp k x ≡ Less). less) (same_or_before k x sorted.0.0)

-- none of a sorted list stands before its first
from_first : (x : Pair) (xs : List Pair) (q : Pair) → AreSorted (x ∷ xs) → Contains (x ∷ xs) q → (x ≡ q) ⊎ (pair_cmp x q ≡ Less)
unfolding IsInOrder
from_first x xs q sorted at = ⊎_elim (λ (is : x ≡ q). inl is) (λ (rest : Contains xs q). same_or_before x q (one_of (IsNotBehind x) xs q sorted.0 rest)) (Contains-cons_cases q x xs at)

kept_in_order : (k : Pair) (xs : List Pair) → AreSorted (k ∷ xs) → AreInOrder (kept_from k xs)
unfolding IsInOrder
kept_in_order k [] sorted = (tt, tt)
kept_in_order k (x ∷ xs) sorted = by (covers k x) refl (kept_in_order k xs (without_second k x xs sorted)) (kept_in_order x xs sorted.1)
  where
    by : (b : Bool) → covers k x ≡ b → AreInOrder (kept_from k xs) → AreInOrder (kept_from x xs) → AreInOrder (cond b (kept_from k xs) (k ∷ kept_from x xs))
    by true e without others = without
    by false e without others = (
      all_of (λ q. pair_cmp k q ≡ Less) (kept_from x xs)
          (λ q at. ⊎_elim (λ (is : x ≡ q). subst (λ (p : Pair). pair_cmp k p ≡ Less) is (apart k x xs sorted e)) (λ (less : pair_cmp x q ≡ Less). pair_cmp_total.trans k x q (apart k x xs sorted e) less) (from_first x xs q sorted.1 (kept_of x xs q at))),
      others,
    )

-- what doesn't stand beside all CIDs of its service is kept
kept_has : (k : Pair) (xs : List Pair) (q : Pair) → Contains (k ∷ xs) q → IsFree (k ∷ xs) q → Contains (kept_from k xs) q
kept_has k [] q at free = at
kept_has k (x ∷ xs) q at free = by (covers k x) refl (λ here alone. kept_has k xs q here alone) (λ here alone. kept_has x xs q here alone)
  where
    fewer : IsFree (k ∷ xs) q
    fewer single all = free single (⊎_elim (λ (is : k ≡ (q.0, None)). (zero, omega arith, is)) (λ (rest : Contains xs (q.0, None)). Contains-cons (q.0, None) k (x ∷ xs) (Contains-cons (q.0, None) x xs rest)) (Contains-cons_cases (q.0, None) k xs all))

    -- a free pair that is covered is the one that covers it
    covered : covers k x ≡ true → x ≡ q → k ≡ q
    covered e is = ⊎_elim (λ (same : k ≡ x). same ∙ is) (λ (all : k ≡ (x.0, None)). single_or (is_none q.1) refl (all ∙ ap (λ (p : Pair). (p.0, None)) is)) (covers_cases k x e)
      where
        single_or : (b : Bool) → is_none q.1 ≡ b → k ≡ (q.0, None) → k ≡ q
        single_or true whole all = all ∙ sym (all_is q whole)
        single_or false single all = absurd (free single (zero, omega arith, all))

    by : (b : Bool) → covers k x ≡ b → (Contains (k ∷ xs) q → IsFree (k ∷ xs) q → Contains (kept_from k xs) q) → (Contains (x ∷ xs) q → IsFree (x ∷ xs) q → Contains (kept_from x xs) q) → Contains (cond b (kept_from k xs) (k ∷ kept_from x xs)) q
    by true e without others =
        ⊎_elim
        (λ (is : k ≡ q). without (zero, omega arith, is) fewer)
        (λ (rest : Contains (x ∷ xs) q). ⊎_elim (λ (is : x ≡ q). without (zero, omega arith, covered e is) fewer) (λ (there : Contains xs q). without (Contains-cons q k xs there) fewer) (Contains-cons_cases q x xs rest))
        (Contains-cons_cases q k (x ∷ xs) at)
    by false e without others =
        ⊎_elim (λ (is : k ≡ q). (zero, omega arith, is)) (λ (rest : Contains (x ∷ xs) q). Contains-cons q k (kept_from x xs) (others rest (λ single all. free single (Contains-cons (q.0, None) k (x ∷ xs) all)))) (Contains-cons_cases q k (x ∷ xs) at)

-- what is kept doesn't stand beside all CIDs of its service
kept_free : (k : Pair) (xs : List Pair) → AreSorted (k ∷ xs) → (q : Pair) → Contains (kept_from k xs) q → IsFree (k ∷ xs) q
unfolding IsInOrder
kept_free k [] sorted q at = λ single all.
    ⊎_elim
    (λ (is : k ≡ q).
    ⊎_elim
    (λ (itself : k ≡ (q.0, None)). let clash : true ≡ false = sym (ap (λ (p : Pair). is_none p.1) itself) ∙ ap (λ (p : Pair). is_none p.1) is ∙ single in absurd (cc))
    (λ (none : Contains [] (q.0, None)). absurd (Contains-nil (q.0, None) none))
    (Contains-cons_cases (q.0, None) k [] all))
    (λ (none : Contains [] q). absurd (Contains-nil q none))
    (Contains-cons_cases q k [] at)
kept_free k (x ∷ xs) sorted q at = by (covers k x) refl (λ here. kept_free k xs (without_second k x xs sorted) q here) (λ here. kept_free x xs sorted.1 q here) at
  where
    by : (b : Bool) → covers k x ≡ b → (Contains (kept_from k xs) q → IsFree (k ∷ xs) q) → (Contains (kept_from x xs) q → IsFree (x ∷ xs) q) → Contains (cond b (kept_from k xs) (k ∷ kept_from x xs)) q → IsFree (k ∷ x ∷ xs) q
    by true e without others at single all =
        ⊎_elim
        (λ (is : k ≡ (q.0, None)). without at single (zero, omega arith, is))
        (λ (rest : Contains (x ∷ xs) (q.0, None)).
        ⊎_elim
        (λ (is : x ≡ (q.0, None)). without at single (zero, omega arith, ⊎_elim (λ (same : k ≡ x). same ∙ is) (λ (whole : k ≡ (x.0, None)). whole ∙ ap (λ (p : Pair). (p.0, None)) is) (covers_cases k x e)))
        (λ (there : Contains xs (q.0, None)). without at single (Contains-cons (q.0, None) k xs there))
        (Contains-cons_cases (q.0, None) x xs rest))
        (Contains-cons_cases (q.0, None) k (x ∷ xs) all)
    by false e without others at single all =
        ⊎_elim
        (λ (is : k ≡ q). before_first is)
        (λ (rest : Contains (kept_from x xs) q).
        ⊎_elim
        (λ (whole : k ≡ (q.0, None)). other_service whole rest)
        (λ (there : Contains (x ∷ xs) (q.0, None)). others rest single there)
        (Contains-cons_cases (q.0, None) k (x ∷ xs) all))
        (Contains-cons_cases q k (kept_from x xs) at)
      where
        -- all CIDs of its service would stand before the first
        before_first : k ≡ q → ⊥
        before_first is =
            ⊎_elim
            (λ (same : k ≡ (q.0, None)). let clash : true ≡ false = sym (ap (λ (p : Pair). is_none p.1) same) ∙ ap (λ (p : Pair). is_none p.1) is ∙ single in absurd (cc))
            (λ (less : pair_cmp k (q.0, None) ≡ Less). before_behind q (q.0, None) (subst (λ (p : Pair). pair_cmp p (q.0, None) ≡ Less) is less) (all_first q single))
            (from_first k (x ∷ xs) (q.0, None) sorted all)

        -- the first would cover the second
        other_service : k ≡ (q.0, None) → Contains (kept_from x xs) q → ⊥
        other_service whole rest =
            let uuid : k.0 ≡ x.0 = between k.0 x q k.1 (ap (λ (p : Pair). p.0) whole) (apart k x xs sorted e) (from_first x xs q sorted.1 (kept_of x xs q rest)) in
            let covered : covers k x ≡ true = subst (λ (p : Pair). covers p x ≡ true) (sym (whole ∙ ap (λ (u : List ℕ). (u, None)) (ap (λ (p : Pair). p.0) (sym whole)))) (all_covers k.0 x uuid) in
            let clash : true ≡ false = sym covered ∙ e in absurd (cc)

sorted_form : (xs : List Pair) → AreSorted xs → normal_form xs ≡ dedup (λ x last. covers last x) xs
sorted_form [] sorted = refl
sorted_form (k ∷ xs) sorted = is_normal_form (k ∷ xs) (kept_from k xs) (kept_in_order k xs sorted) (λ q at. kept_of k xs q at) (λ q at. kept_free k xs sorted q at) (λ q at free. kept_has k xs q at free)

-- two lists with the same pairs have one normal form
pub same_form : (ps xs : List Pair) → ((q : Pair) → Contains ps q → Contains xs q) → ((q : Pair) → Contains xs q → Contains ps q) → normal_form xs ≡ normal_form ps
same_form ps xs there back =
    is_normal_form xs (normal_form ps) (normal_in_order ps) (λ q at. there q (normal_from ps q at)) (λ q at single all. normal_free ps q at single (back (q.0, None) all)) (λ q at free. normal_has ps q (back q at) (λ single all. free single (there (q.0, None) all)))

pub settled : (ps xs : List Pair) → IsPermutation ps xs → IsSorted pair_cmp xs → dedup (λ x last. covers last x) xs ≡ normal_form ps
settled ps xs moved sorted = sym (sorted_form xs (are_sorted xs sorted)) ∙ same_form ps xs (λ q at. Contains-permutation ps xs q moved at) (λ q at. Contains-permutation xs ps q (IsPermutation-sym ps xs moved) at)

sorted_in_order : (xs : List Pair) → AreInOrder xs → AreSorted xs
unfolding IsInOrder
sorted_in_order [] ordered = tt
sorted_in_order (x ∷ xs) ordered = (all_weaker (λ y. pair_cmp x y ≡ Less) (IsNotBehind x) (λ y less. ap is_lt (less_greater x y less)) xs ordered.0, sorted_in_order xs ordered.1)

pub ordered_form : (xs : List Pair) → AreInOrder xs → dedup (λ x last. covers last x) xs ≡ normal_form xs
ordered_form xs ordered = sym (sorted_form xs (sorted_in_order xs ordered))
