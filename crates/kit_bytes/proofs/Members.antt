-- Lists: what stands in one.
use Rattle.std.proofs.Common.{◌≡◌, ◌⊎◌, ℕ, zero, suc, ◌<◌, Bool, true, false, cond, List, [], ◌∷◌, length, get_or, refl, ap, sym, ◌∙◌, inl, inr, ⊎_elim, arith, Contains, filter}
use Rattle.std.proofs.lemmas.List.Elements.{All-contains, All-contains_itself, All-filter, filter_passes}

pub Contains-cons : {X : Type 0} (x y : X) (xs : List X) → Contains xs x → Contains (y ∷ xs) x
Contains-cons x y xs at = (suc at.0, omega (arith, at.1), at.2)

pub Contains-cons_cases : {X : Type 0} (x y : X) (xs : List X) → Contains (y ∷ xs) x → (y ≡ x) ⊎ Contains xs x
Contains-cons_cases {X} x y xs at = by_index at.0 at.1 at.2
  where
    by_index : (k : ℕ) → k < suc (length xs) → get_or (y ∷ xs) k x ≡ x → (y ≡ x) ⊎ Contains xs x
    by_index zero within found = inl found
    by_index (suc k) within found = inr (k, omega arith, found)

pub Contains-nil : {X : Type 0} (x : X) → Contains [] x → ⊥
Contains-nil x at = let none = at.1 in omega arith

module _ {X : Type 0} (p : X → Bool) where
  pub Contains-filter : (xs : List X) (x : X) → Contains xs x → p x ≡ true → Contains (filter p xs) x
  Contains-filter [] x at passes = absurd (Contains-nil x at)
  Contains-filter (y ∷ xs) x at passes =
      let step : (b : Bool) → p y ≡ b → Contains (cond b (y ∷ filter p xs) (filter p xs)) x =
      λ b. elim b as (λ b. p y ≡ b → Contains (cond b (y ∷ filter p xs) (filter p xs)) x) [
        | true ↦ λ e. ⊎_elim (λ (is : y ≡ x). (zero, omega arith, is)) (λ (rest : Contains xs x). Contains-cons x y (filter p xs) (Contains-filter xs x rest passes)) (Contains-cons_cases x y xs at)
        | false ↦ λ e. ⊎_elim (λ (is : y ≡ x). let clash : true ≡ false = sym passes ∙ ap p (sym is) ∙ e in absurd (cc)) (λ (rest : Contains xs x). Contains-filter xs x rest passes) (Contains-cons_cases x y xs at)
      ]
      in step (p y) refl

  pub Contains-filter_from : (xs : List X) (x : X) → Contains (filter p xs) x → Contains xs x
  Contains-filter_from xs x at = All-contains (Contains xs) (filter p xs) x (All-filter p (Contains xs) xs (All-contains_itself xs)) at

  pub Contains-filter_passes : (xs : List X) (x : X) → Contains (filter p xs) x → p x ≡ true
  Contains-filter_passes xs x at = All-contains (λ (y : X). p y ≡ true) (filter p xs) x (filter_passes p xs) at
