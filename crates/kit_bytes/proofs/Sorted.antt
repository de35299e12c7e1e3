-- Lists in order: what is found in one by halves, and that it stays in order.
use Rattle.std.proofs.Common.{◌≡◌, ⊎_elim, ◌⊎◌, ℕ, zero, suc, ◌+◌, ◌<◌, ◌≤◌, Bool, true, false, cond, List, [], ◌∷◌, ◌++◌, length, take, drop, filter, map, get_or, set, refl, ap, sym, ◌∙◌, subst, arith, Some, None}
use Rattle.std.specs.List.{AllByRecursion, AllWithin, remove, position, position_from}
use Rattle.std.specs.List.Sorted.{IsPartitionedBy}
use Rattle.std.proofs.lemmas.Iterator.Adapters.{position_from-zero}
use Rattle.std.proofs.Math.Nat.{eq-or-lt_of_le}
use Rattle.kit_bytes.proofs.Lists.{all_at, all_from, all_filter, all_insert, all_map, all_push, all_remove, all_set}
use Rattle.kit_bytes.specs.Sorted.{IsInOrder}

-- ---- the first that passes a test, by its place ----

module _ {X : Type 0} (p : X → Bool) where
  found_from : (xs : List X) (start place : ℕ) (d : X) → ((k : ℕ) → k < place → p (get_or xs k d) ≡ false) → place < length xs → p (get_or xs place d) ≡ true → position_from p start xs ≡ Some (start + place)
  found_from [] start place d before within here = absurd (omega arith)
  found_from (x ∷ xs) start zero d before within here = rw here (ap (λ (n : ℕ). Some n) (omega arith))
  found_from (x ∷ xs) start (suc place) d before within here =
      rw (before 0 (omega arith)) (found_from xs (start + 1) place d (λ k low. before (suc k) (omega arith)) (omega arith) here ∙ ap (λ (n : ℕ). Some n) (omega arith))

  none_from : (xs : List X) (start : ℕ) → ((k : ℕ) (d : X) → k < length xs → p (get_or xs k d) ≡ false) → position_from p start xs ≡ None
  none_from [] start none = refl
  none_from (x ∷ xs) start none = rw (none 0 x (omega arith)) (none_from xs (start + 1) (λ k d within. none (suc k) d (omega arith)))

  pub position_is : (xs : List X) (place : ℕ) (d : X) → ((k : ℕ) → k < place → p (get_or xs k d) ≡ false) → place < length xs → p (get_or xs place d) ≡ true → position p xs ≡ Some place
  position_is xs place d before within here = position_from-zero p xs ∙ found_from xs 0 place d before within here ∙ ap (λ (n : ℕ). Some n) (omega arith)

  pub position_none : (xs : List X) → ((k : ℕ) (d : X) → k < length xs → p (get_or xs k d) ≡ false) → position p xs ≡ None
  position_none xs none = position_from-zero p xs ∙ none_from xs 0 none

-- ---- lists in order ----

pub in_order_map : {X Y : Type 0} (R : Y → Y → Type 0) (f : X → Y) (xs : List X) → IsInOrder (λ x y. R (f x) (f y)) xs → IsInOrder R (map f xs)
unfolding IsInOrder
in_order_map R f [] ordered = tt
in_order_map R f (x ∷ xs) ordered = (all_map (R (f x)) f xs ordered.0, in_order_map R f xs ordered.1)

module _ {X : Type 0} (R : X → X → Type 0) where
  pub in_order_at : (xs : List X) (j k : ℕ) (d : X) → IsInOrder R xs → j < k → k < length xs → R (get_or xs j d) (get_or xs k d)
  unfolding IsInOrder
  in_order_at [] j k d ordered less within = absurd (omega arith)
  in_order_at (x ∷ xs) j zero d ordered less within = absurd (omega arith)
  in_order_at (x ∷ xs) zero (suc k) d ordered less within = all_at (R x) xs k d ordered.0 (omega arith)
  in_order_at (x ∷ xs) (suc j) (suc k) d ordered less within = in_order_at xs j k d ordered.1 (omega arith) (omega arith)

  -- what stands before one that passes passes
  pub partitioned : (before : X → Bool) → ((x y : X) → R x y → before y ≡ true → before x ≡ true) → (xs : List X) → IsInOrder R xs → IsPartitionedBy before xs
  partitioned before earlier xs ordered = λ j k d le within is.
      ⊎_elim
      (λ (same : j ≡ k). ap (λ (n : ℕ). before (get_or xs n d)) same ∙ is)
      (λ (less : j < k). earlier (get_or xs j d) (get_or xs k d) (in_order_at xs j k d ordered less within) is)
      (eq-or-lt_of_le le)

  pub in_order_none : (xs : List X) → xs ≡ [] → IsInOrder R xs
  unfolding IsInOrder
  in_order_none xs none = subst (IsInOrder R) (sym none) tt

  pub in_order_filter : (p : X → Bool) (xs : List X) → IsInOrder R xs → IsInOrder R (filter p xs)
  unfolding IsInOrder
  in_order_filter p [] ordered = tt
  in_order_filter p (x ∷ xs) ordered =
      elim (p x) as (λ b. IsInOrder R (cond b (x ∷ filter p xs) (filter p xs))) [
        | true ↦ (all_filter (R x) p xs ordered.0, in_order_filter p xs ordered.1)
        | false ↦ in_order_filter p xs ordered.1
      ]

  pub in_order_remove : (xs : List X) (i : ℕ) → IsInOrder R xs → IsInOrder R (remove xs i)
  unfolding IsInOrder
  in_order_remove [] zero ordered = tt
  in_order_remove [] (suc i) ordered = tt
  in_order_remove (x ∷ xs) zero ordered = ordered.1
  in_order_remove (x ∷ xs) (suc i) ordered = (all_remove (R x) xs i ordered.0, in_order_remove xs i ordered.1)

  -- one stands where the other stood
  pub in_order_set : (xs : List X) (i : ℕ) (new d : X) → ((y : X) → R (get_or xs i d) y → R new y) → ((y : X) → R y (get_or xs i d) → R y new) → IsInOrder R xs → IsInOrder R (set xs i new)
  unfolding IsInOrder
  in_order_set [] i new d behind before ordered = tt
  in_order_set (x ∷ xs) zero new d behind before ordered = (all_from (R new) xs (λ k e within. behind (get_or xs k e) (all_at (R x) xs k e ordered.0 within)), ordered.1)
  in_order_set (x ∷ xs) (suc i) new d behind before ordered = (all_set (R x) xs i new d (before x) ordered.0, in_order_set xs i new d behind before ordered.1)

  pub in_order_push : (xs : List X) (new : X) → AllByRecursion (λ x. R x new) xs → IsInOrder R xs → IsInOrder R (xs ++ new ∷ [])
  unfolding IsInOrder
  in_order_push [] new before ordered = (tt, tt)
  in_order_push (x ∷ xs) new before ordered = (all_push (R x) xs new ordered.0 before.0, in_order_push xs new before.1 ordered.1)

  pub in_order_insert : (xs : List X) (place : ℕ) (new : X) → AllWithin (λ x. R x new) xs 0 place → AllWithin (R new) xs place (length xs) → IsInOrder R xs → IsInOrder R (take place xs ++ new ∷ drop place xs)
  unfolding IsInOrder
  in_order_insert xs zero new before behind ordered = (all_from (R new) xs (λ k d within. behind k d (omega arith) within), ordered)
  in_order_insert [] (suc place) new before behind ordered = (tt, tt)
  in_order_insert (x ∷ xs) (suc place) new before behind ordered = (
    all_insert (R x) xs place new ordered.0 (before 0 x (omega arith) (omega arith)),
    in_order_insert xs place new (λ k d low high. before (suc k) d (omega arith) (omega arith)) (λ k d low high. behind (suc k) d (omega arith) (omega arith)) ordered.1,
  )

  -- ---- one that is looked for by halves: `is` passes it alone, `before` passes those that stand before it ----

  module _ (is before : X → Bool) (apart : (x : X) → before x ≡ true → is x ≡ false) (ahead : (x y : X) → R x y → is y ≡ true → before x ≡ true) (xs : List X) (place : ℕ) (lower : AllWithin (λ x. before x ≡ true) xs 0 place) where
    passed : (k : ℕ) (d : X) → k < place → is (get_or xs k d) ≡ false
    passed k d low = apart (get_or xs k d) (lower k d (omega arith) low)

    pub searched_here : (d : X) → place < length xs → is (get_or xs place d) ≡ true → position is xs ≡ Some place
    searched_here d within here = position_is is xs place d (λ k low. passed k d low) within here

    pub searched_end : place ≡ length xs → position is xs ≡ None
    searched_end end = position_none is xs (λ k d within. passed k d (omega (arith, end)))

    module _ (rest : AllWithin (λ x. before x ≡ false) xs place (length xs)) (ordered : IsInOrder R xs) (within : place < length xs) where
      later : (k : ℕ) (d : X) → place < k → k < length xs → is (get_or xs k d) ≡ false
      later k d high inside =
          let step : (b : Bool) → is (get_or xs k d) ≡ b → b ≡ false =
          λ b. elim b as (λ b. is (get_or xs k d) ≡ b → b ≡ false) [
            | true ↦ λ e. sym (ahead (get_or xs place d) (get_or xs k d) (in_order_at xs place k d ordered high inside) e) ∙ rest place d (omega arith) within
            | false ↦ λ e. refl
          ]
          in step (is (get_or xs k d)) refl

      pub searched_other : ((d : X) → is (get_or xs place d) ≡ false) → position is xs ≡ None
      searched_other other = position_none is xs (λ k d inside. ⊎_elim (λ (low : k < place). passed k d low) (λ (high : place ≤ k). ⊎_elim (λ (same : place ≡ k). ap (λ (n : ℕ). is (get_or xs n d)) (sym same) ∙ other d) (λ (above : place < k). later k d above inside) (eq-or-lt_of_le high)) (sides k))
        where
          sides : (k : ℕ) → (k < place) ⊎ (place ≤ k)
          sides k = grind arith
