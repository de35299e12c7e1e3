-- Pairs in order: two lists in order with the same pairs are the same.
use Rattle.std.proofs.Common.{◌≡◌, ◌⊎◌, ℕ, zero, suc, true, false, cond, List, [], ◌∷◌, ◌++◌, length, take, drop, get_or, ◌≤◌, refl, ap, sym, ◌∙◌, inl, inr, ⊎_elim, subst, arith, Contains}
use Rattle.std.specs.declared.cmp.Ordering.{Ordering}
use Rattle.std.specs.declared.cmp.Ordering.TheVariants.{Less, Equal, Greater}
use Rattle.std.specs.Ordering.{ordering_reverse, is_lt, is_eq}
use Rattle.std.specs.List.{AllByRecursion, AllWithin}
use Rattle.std.specs.List.Sorted.{IsPartitionedBy}
use Rattle.std.proofs.lemmas.Cmp.{tied_itself}
use Rattle.std.proofs.lemmas.List.Elements.{Contains-get_or}
use Rattle.kit_bytes.specs.Sorted.{IsInOrder}
use Rattle.kit_bytes.specs.Subscriptions.{Pair, pair_cmp, pairs_with, ordered_pairs}
use Rattle.kit_bytes.proofs.Lists.{all_weaker, all_at, all_from}
use Rattle.kit_bytes.proofs.Members.{Contains-cons, Contains-cons_cases, Contains-nil}
use Rattle.kit_bytes.proofs.Sorted.{partitioned}
use Rattle.kit_bytes.proofs.Pairs.{exact_pair, pair_cmp_total}
use Rattle.subscriptions.specs.Lists.{AreInOrder}

-- ---- the order of two pairs ----

pub greater_less : (a b : Pair) → pair_cmp a b ≡ Greater → pair_cmp b a ≡ Less
greater_less a b e = pair_cmp_total.antisymm b a ∙ ap ordering_reverse e

pub less_greater : (a b : Pair) → pair_cmp a b ≡ Less → pair_cmp b a ≡ Greater
less_greater a b e = pair_cmp_total.antisymm b a ∙ ap ordering_reverse e

pub not_before_itself : (a : Pair) → pair_cmp a a ≡ Less → ⊥
not_before_itself a e = let clash : Less ≡ Equal = sym e ∙ tied_itself pair_cmp_total a in absurd (cc)

pub before_behind : (a b : Pair) → pair_cmp a b ≡ Less → pair_cmp b a ≡ Less → ⊥
before_behind a b e f = not_before_itself a (pair_cmp_total.trans a b a e f)

-- ---- all of a list, and one of it ----

pub all_of : (P : Pair → Type 0) (xs : List Pair) → ((x : Pair) → Contains xs x → P x) → AllByRecursion P xs
all_of P xs each = all_from P xs (λ k d within. each (get_or xs k d) (Contains-get_or xs k d within))

pub one_of : (P : Pair → Type 0) (xs : List Pair) (x : Pair) → AllByRecursion P xs → Contains xs x → P x
one_of P xs x all at = subst P at.2 (all_at P xs at.0 x all at.1)

pub first_of : (x : Pair) (xs : List Pair) → Contains (x ∷ xs) x
first_of x xs = (zero, omega arith, refl)

-- ---- a pair in a list in order ----

module _ (p : Pair) where
  pub with_cases : (xs : List Pair) (q : Pair) → Contains (pairs_with p xs) q → (p ≡ q) ⊎ Contains xs q
  with_cases [] q at = Contains-cons_cases q p [] at
  with_cases (x ∷ xs) q at = by (pair_cmp p x) (λ more. with_cases xs q more) at
    where
      by : (r : Ordering) → (Contains (pairs_with p xs) q → (p ≡ q) ⊎ Contains xs q) → Contains (cond (is_lt r) (p ∷ x ∷ xs) (cond (is_eq r) (x ∷ xs) (x ∷ pairs_with p xs))) q → (p ≡ q) ⊎ Contains (x ∷ xs) q
      by Less others at = Contains-cons_cases q p (x ∷ xs) at
      by Equal others at = inr at
      by Greater others at =
          ⊎_elim
          (λ (is : x ≡ q). inr (zero, omega arith, is))
          (λ (rest : Contains (pairs_with p xs) q). ⊎_elim (λ (is : p ≡ q). inl is) (λ (old : Contains xs q). inr (Contains-cons q x xs old)) (others rest))
          (Contains-cons_cases q x (pairs_with p xs) at)

  pub with_has : (xs : List Pair) → Contains (pairs_with p xs) p
  with_has [] = first_of p []
  with_has (x ∷ xs) = by (pair_cmp p x) refl (with_has xs)
    where
      by : (r : Ordering) → pair_cmp p x ≡ r → Contains (pairs_with p xs) p → Contains (cond (is_lt r) (p ∷ x ∷ xs) (cond (is_eq r) (x ∷ xs) (x ∷ pairs_with p xs))) p
      by Less e others = first_of p (x ∷ xs)
      by Equal e others = (zero, omega arith, sym (exact_pair p x e))
      by Greater e others = Contains-cons p x (pairs_with p xs) others

  pub with_keeps : (xs : List Pair) (q : Pair) → Contains xs q → Contains (pairs_with p xs) q
  with_keeps [] q at = absurd (Contains-nil q at)
  with_keeps (x ∷ xs) q at = by (pair_cmp p x) (λ more. with_keeps xs q more)
    where
      by : (r : Ordering) → (Contains xs q → Contains (pairs_with p xs) q) → Contains (cond (is_lt r) (p ∷ x ∷ xs) (cond (is_eq r) (x ∷ xs) (x ∷ pairs_with p xs))) q
      by Less others = Contains-cons q p (x ∷ xs) at
      by Equal others = at
      by Greater others = ⊎_elim (λ (is : x ≡ q). (zero, omega arith, is)) (λ (rest : Contains xs q). Contains-cons q x (pairs_with p xs) (others rest)) (Contains-cons_cases q x xs at)

  pub with_in_order : (xs : List Pair) → AreInOrder xs → AreInOrder (pairs_with p xs)
  unfolding IsInOrder
  with_in_order [] ordered = (tt, tt)
  with_in_order (x ∷ xs) ordered = by (pair_cmp p x) refl (with_in_order xs ordered.1)
    where
      by : (r : Ordering) → pair_cmp p x ≡ r → AreInOrder (pairs_with p xs) → AreInOrder (cond (is_lt r) (p ∷ x ∷ xs) (cond (is_eq r) (x ∷ xs) (x ∷ pairs_with p xs)))
      by Less e others = ((e, all_weaker (λ y. pair_cmp x y ≡ Less) (λ y. pair_cmp p y ≡ Less) (λ y behind. pair_cmp_total.trans p x y e behind) xs ordered.0), ordered)
      by Equal e others = ordered
      by Greater e others = (
        all_of (λ y. pair_cmp x y ≡ Less) (pairs_with p xs) (λ y at. ⊎_elim (λ (is : p ≡ y). subst (λ z. pair_cmp x z ≡ Less) is (greater_less p x e)) (λ (old : Contains xs y). one_of (λ z. pair_cmp x z ≡ Less) xs y ordered.0 old) (with_cases xs y at)),
        others,
      )

  pub with_length : (xs : List Pair) → (Contains xs p → ⊥) → length (pairs_with p xs) ≡ suc (length xs)
  with_length [] absent = refl
  with_length (x ∷ xs) absent = by (pair_cmp p x) refl (with_length xs (λ at. absent (Contains-cons p x xs at)))
    where
      by : (r : Ordering) → pair_cmp p x ≡ r → length (pairs_with p xs) ≡ suc (length xs) → length (cond (is_lt r) (p ∷ x ∷ xs) (cond (is_eq r) (x ∷ xs) (x ∷ pairs_with p xs))) ≡ suc (suc (length xs))
      by Less e others = refl
      by Equal e others = absurd (absent (zero, omega arith, sym (exact_pair p x e)))
      by Greater e others = ap suc others

  pub with_shorter : (xs : List Pair) → length (pairs_with p xs) ≤ suc (length xs)
  with_shorter [] = omega arith
  with_shorter (x ∷ xs) = by (pair_cmp p x) (with_shorter xs)
    where
      by : (r : Ordering) → length (pairs_with p xs) ≤ suc (length xs) → length (cond (is_lt r) (p ∷ x ∷ xs) (cond (is_eq r) (x ∷ xs) (x ∷ pairs_with p xs))) ≤ suc (suc (length xs))
      by Less others = omega arith
      by Equal others = omega arith
      by Greater others = omega (arith, others)

-- ---- the pairs of a list in order ----

pub ordered_in_order : (ps : List Pair) → AreInOrder (ordered_pairs ps)
unfolding IsInOrder
ordered_in_order [] = tt
ordered_in_order (p ∷ ps) = with_in_order p (ordered_pairs ps) (ordered_in_order ps)

pub ordered_from : (ps : List Pair) (q : Pair) → Contains (ordered_pairs ps) q → Contains ps q
ordered_from [] q at = at
ordered_from (p ∷ ps) q at = ⊎_elim (λ (is : p ≡ q). (zero, omega arith, is)) (λ (rest : Contains (ordered_pairs ps) q). Contains-cons q p ps (ordered_from ps q rest)) (with_cases p (ordered_pairs ps) q at)

pub ordered_has : (ps : List Pair) (q : Pair) → Contains ps q → Contains (ordered_pairs ps) q
ordered_has [] q at = at
ordered_has (p ∷ ps) q at =
    ⊎_elim
    (λ (is : p ≡ q). subst (λ (r : Pair). Contains (pairs_with p (ordered_pairs ps)) r) is (with_has p (ordered_pairs ps)))
    (λ (rest : Contains ps q). with_keeps p (ordered_pairs ps) q (ordered_has ps q rest))
    (Contains-cons_cases q p ps at)

-- ---- two lists in order ----

same_first : (x y : Pair) (xs ys : List Pair) → AllByRecursion (λ z. pair_cmp x z ≡ Less) xs → AllByRecursion (λ z. pair_cmp y z ≡ Less) ys → Contains (y ∷ ys) x → Contains (x ∷ xs) y → x ≡ y
same_first x y xs ys behind_x behind_y at_x at_y =
    ⊎_elim
    (λ (is : y ≡ x). sym is)
    (λ (rest : Contains ys x).
    ⊎_elim
    (λ (is : x ≡ y). is)
    (λ (other : Contains xs y). absurd (before_behind x y (one_of (λ z. pair_cmp x z ≡ Less) xs y behind_x other) (one_of (λ z. pair_cmp y z ≡ Less) ys x behind_y rest)))
    (Contains-cons_cases y x xs at_y))
    (Contains-cons_cases x y ys at_x)

pub same_rest : (x y : Pair) (xs ys : List Pair) → x ≡ y → AllByRecursion (λ z. pair_cmp x z ≡ Less) xs → ((q : Pair) → Contains (x ∷ xs) q → Contains (y ∷ ys) q) → (q : Pair) → Contains xs q → Contains ys q
same_rest x y xs ys same behind to q at =
    ⊎_elim
    (λ (is : y ≡ q). absurd (not_before_itself q (subst (λ z. pair_cmp z q ≡ Less) (same ∙ is) (one_of (λ z. pair_cmp x z ≡ Less) xs q behind at))))
    (λ (rest : Contains ys q). rest)
    (Contains-cons_cases q y ys (to q (Contains-cons q x xs at)))

pub same_in_order : (xs ys : List Pair) → AreInOrder xs → AreInOrder ys → ((q : Pair) → Contains xs q → Contains ys q) → ((q : Pair) → Contains ys q → Contains xs q) → xs ≡ ys
unfolding IsInOrder
same_in_order [] [] one other to from = refl
same_in_order [] (y ∷ ys) one other to from = absurd (Contains-nil y (from y (first_of y ys)))
same_in_order (x ∷ xs) [] one other to from = absurd (Contains-nil x (to x (first_of x xs)))
same_in_order (x ∷ xs) (y ∷ ys) one other to from =
    let first : x ≡ y = same_first x y xs ys one.0 other.0 (to x (first_of x xs)) (from y (first_of y ys)) in
    let rest : xs ≡ ys = same_in_order xs ys one.1 other.1 (same_rest x y xs ys first one.0 to) (same_rest y x ys xs (sym first) other.0 from) in
    cc

-- ---- where a pair is put ----

pub less_is : (r : Ordering) → is_lt r ≡ true → r ≡ Less
less_is Less e = refl
less_is Equal e = absurd (cc)
less_is Greater e = absurd (cc)

module _ (p : Pair) where
  -- what stands in front of one that stands before it stands before it
  pub halved : (xs : List Pair) → AreInOrder xs → IsPartitionedBy (λ x. is_lt (pair_cmp x p)) xs
  halved xs ordered =
      partitioned (λ x y. pair_cmp x y ≡ Less) (λ x. is_lt (pair_cmp x p)) (λ x y behind before. ap is_lt (pair_cmp_total.trans x y p behind (less_is (pair_cmp y p) before))) xs ordered

  pub put_in_order : (xs : List Pair) (place : ℕ) → AllWithin (λ x. is_lt (pair_cmp x p) ≡ true) xs 0 place → AllWithin (λ x. is_lt (pair_cmp x p) ≡ false) xs place (length xs) → place ≤ length xs → (Contains xs p → ⊥) → take place xs ++ p ∷ drop place xs ≡ pairs_with p xs
  put_in_order [] zero before behind within absent = refl
  put_in_order [] (suc place) before behind within absent = absurd (omega (arith, within))
  put_in_order (x ∷ xs) zero before behind within absent = by (pair_cmp p x) refl (behind zero x (omega arith) (omega arith))
    where
      by : (r : Ordering) → pair_cmp p x ≡ r → is_lt (pair_cmp x p) ≡ false → p ∷ x ∷ xs ≡ cond (is_lt r) (p ∷ x ∷ xs) (cond (is_eq r) (x ∷ xs) (x ∷ pairs_with p xs))
      by Less e not_before = refl
      by Equal e not_before = absurd (absent (zero, omega arith, sym (exact_pair p x e)))
      by Greater e not_before = let clash : true ≡ false = sym (ap is_lt (greater_less p x e)) ∙ not_before in absurd (cc)
  put_in_order (x ∷ xs) (suc place) before behind within absent =
      by (pair_cmp p x) (less_greater x p (less_is (pair_cmp x p) (before zero x (omega arith) (omega arith))))
      (put_in_order xs place (λ k d low high. before (suc k) d (omega arith) (omega arith)) (λ k d low high. behind (suc k) d (omega arith) (omega arith)) (omega (arith, within)) (λ at. absent (Contains-cons p x xs at)))
    where
      by : (r : Ordering) → r ≡ Greater → take place xs ++ p ∷ drop place xs ≡ pairs_with p xs → x ∷ (take place xs ++ p ∷ drop place xs) ≡ cond (is_lt r) (p ∷ x ∷ xs) (cond (is_eq r) (x ∷ xs) (x ∷ pairs_with p xs))
      by Less e others = absurd (cc)
      by Equal e others = absurd (cc)
      by Greater e others = ap (λ (l : List Pair). x ∷ l) others
