-- Each device meets its part of an event, and one alone has a part.
use Rattle.std.proofs.Common.{◌≡◌, ℕ, zero, suc, ◌+◌, ◌<◌, Bool, true, false, ◌==◌, List, [], ◌∷◌, map, refl, ap, ◌∙◌, arith}
use Rattle.std.proofs.lemmas.Bool.Decides.{nat_tests}
use Rattle.proxy_history.specs.Events.{Event}
use Rattle.many_history.specs.Many.{events_if, only_at}
use Rattle.many_state.specs.Core.{each_from}
use Rattle.many_cores.specs.Cores.{at_place}

module _ {X : Type 0} where
  module _ (after : List Event → X → X) (none : (x : X) → after [] x ≡ x) where
    pub all_stay : (i : ℕ) (xs : List X) → each_from (λ e x. after [] x) i xs ≡ xs
    unfolding each_from
    all_stay i [] = refl
    all_stay i (x ∷ xs) = ap (λ (y : X). y ∷ each_from (λ e x. after [] x) (suc i) xs) (none x) ∙ ap (λ (l : List X). x ∷ l) (all_stay (suc i) xs)

    later_stay : (d : ℕ) (part : List Event) (i : ℕ) (xs : List X) → d < i → each_from (λ e x. after (only_at d part e) x) i xs ≡ xs
    unfolding each_from
    later_stay d part i [] less = refl
    later_stay d part i (x ∷ xs) less =
        let other : (i == d) ≡ false = grind (arith, nat_tests, less) in
        ap (λ (b : Bool). after (events_if b part) x ∷ each_from (λ e x. after (only_at d part e) x) (suc i) xs) other
        ∙ ap (λ (y : X). y ∷ each_from (λ e x. after (only_at d part e) x) (suc i) xs) (none x)
        ∙ ap (λ (l : List X). x ∷ l) (later_stay d part (suc i) xs (omega (arith, less)))

    one_from : (part : List Event) (j i d : ℕ) (xs : List X) → d ≡ i + j → each_from (λ e x. after (only_at d part e) x) i xs ≡ at_place j (after part) xs
    unfolding each_from
    one_from part j i d [] is = refl
    one_from part zero i d (x ∷ xs) is =
        let here : (i == d) ≡ true = grind (arith, nat_tests, is) in
        ap (λ (b : Bool). after (events_if b part) x ∷ each_from (λ e x. after (only_at d part e) x) (suc i) xs) here
        ∙ ap (λ (l : List X). after part x ∷ l) (later_stay d part (suc i) xs (omega (arith, is)))
    one_from part (suc j) i d (x ∷ xs) is =
        let other : (i == d) ≡ false = grind (arith, nat_tests, is) in
        ap (λ (b : Bool). after (events_if b part) x ∷ each_from (λ e x. after (only_at d part e) x) (suc i) xs) other
        ∙ ap (λ (y : X). y ∷ each_from (λ e x. after (only_at d part e) x) (suc i) xs) (none x)
        ∙ ap (λ (l : List X). x ∷ l) (one_from part j (suc i) d xs (omega (arith, is)))

    pub one_changes : (part : List Event) (d : ℕ) (xs : List X) → each_from (λ e x. after (only_at d part e) x) 0 xs ≡ at_place d (after part) xs
    one_changes part d xs = one_from part d 0 d xs (omega arith)

  pub each_changes : (change : X → X) (i : ℕ) (xs : List X) → each_from (λ e x. change x) i xs ≡ map change xs
  unfolding each_from
  each_changes change i [] = refl
  each_changes change i (x ∷ xs) = ap (λ (l : List X). change x ∷ l) (each_changes change (suc i) xs)
