-- A list in which one element changes.
use Rattle.std.proofs.Common.{◌≡◌, ℕ, zero, suc, ◌<◌, ◌≤◌, List, [], ◌∷◌, ◌++◌, length, map, set, get_or, slice_get, take, drop, refl, ap, sym, arith, Some, None}
use Rattle.many_cores.specs.Cores.{at_place}

module _ {X : Type 0} where
  pub at_place_set : (change : X → X) (xs : List X) (i : ℕ) (x : X) → i < length xs → x ≡ get_or xs i x → set xs i (change x) ≡ at_place i change xs
  at_place_set change [] i x within at = absurd (omega (arith, within))
  at_place_set change (y ∷ xs) zero x within at = ap (λ (z : X). change z ∷ xs) at
  at_place_set change (y ∷ xs) (suc i) x within at = ap (λ (l : List X). y ∷ l) (at_place_set change xs i x (omega (arith, within)) at)

  -- the element of a place
  pub some_at : (xs : List X) (i : ℕ) → i < length xs → (x : X) × (x ≡ get_or xs i x)
  some_at [] i within = absurd (omega (arith, within))
  some_at (y ∷ xs) zero within = (y, refl)
  some_at (y ∷ xs) (suc i) within = some_at xs i (omega (arith, within))

  pub got_at : (xs : List X) (i : ℕ) (x : X) → i < length xs → x ≡ get_or xs i x → slice_get xs i ≡ Some x
  got_at [] i x within at = absurd (omega (arith, within))
  got_at (y ∷ xs) zero x within at = ap Some (sym at)
  got_at (y ∷ xs) (suc i) x within at = got_at xs i x (omega (arith, within)) at

  pub at_got : (xs : List X) (i : ℕ) (x : X) → slice_get xs i ≡ Some x → x ≡ get_or xs i x
  at_got [] i x got = refl
  at_got (y ∷ xs) zero x got = (let same : y ≡ x = cc in sym same)
  at_got (y ∷ xs) (suc i) x got = at_got xs i x got

  pub is_within : (xs : List X) (i : ℕ) (x : X) → slice_get xs i ≡ Some x → i < length xs
  is_within [] i x at = absurd (cc)
  is_within (y ∷ xs) zero x at = omega arith
  is_within (y ∷ xs) (suc i) x at = omega (arith, is_within xs i x at)

  pub none_at : (xs : List X) (i : ℕ) → length xs ≤ i → slice_get xs i ≡ None
  none_at [] i beyond = refl
  none_at (y ∷ xs) zero beyond = absurd (omega (arith, beyond))
  none_at (y ∷ xs) (suc i) beyond = none_at xs i (omega (arith, beyond))

  pub at_place_length : (change : X → X) (xs : List X) (i : ℕ) → length (at_place i change xs) ≡ length xs
  at_place_length change [] i = refl
  at_place_length change (y ∷ xs) zero = refl
  at_place_length change (y ∷ xs) (suc i) = ap suc (at_place_length change xs i)

  -- those in front of a place are changed, and then the one at it
  abbrev pub changed_to : (X → X) → ℕ → List X → List X
  changed_to change i xs = map change (take i xs) ++ drop i xs

  pub changed_next : (change : X → X) (i : ℕ) (xs : List X) → at_place i change (changed_to change i xs) ≡ changed_to change (suc i) xs
  changed_next change zero [] = refl
  changed_next change zero (x ∷ xs) = refl
  changed_next change (suc i) [] = refl
  changed_next change (suc i) (x ∷ xs) = ap (λ (l : List X). change x ∷ l) (changed_next change i xs)

  pub changed_length : (change : X → X) (i : ℕ) (xs : List X) → length (changed_to change i xs) ≡ length xs
  changed_length change zero xs = refl
  changed_length change (suc i) [] = refl
  changed_length change (suc i) (x ∷ xs) = ap suc (changed_length change i xs)

  pub changed_all : (change : X → X) (i : ℕ) (xs : List X) → length xs ≤ i → changed_to change i xs ≡ map change xs
  changed_all change zero [] all = refl
  changed_all change zero (x ∷ xs) all = absurd (omega (arith, all))
  changed_all change (suc i) [] all = refl
  changed_all change (suc i) (x ∷ xs) all = ap (λ (l : List X). change x ∷ l) (changed_all change i xs (omega (arith, all)))

  -- those behind it stay
  pub unchanged_at : (change : X → X) (i : ℕ) (xs : List X) → slice_get (changed_to change i xs) i ≡ slice_get xs i
  unchanged_at change zero xs = refl
  unchanged_at change (suc i) [] = refl
  unchanged_at change (suc i) (x ∷ xs) = unchanged_at change i xs
