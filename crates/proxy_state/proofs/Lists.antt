-- Lemmas on lists.
use Rattle.std.proofs.Common.{◌≡◌, ℕ, ◌<◌, ◌≤◌, Bool, true, false, not, cond, ◌||◌, List, [], ◌∷◌, ◌++◌, map, filter, refl, ap, ◌∙◌, arith, ◌==◌}
use Rattle.std.proofs.lemmas.Bool.{eqb-true, or_right}
use Rattle.std.specs.List.{AllByRecursion}
use Rattle.std.proofs.lemmas.Bool.Decides.{nat_tests}
use Rattle.proxy_history.specs.Connections.{contains, without}
use Rattle.proxy_history.proofs.Lists.{contains_filter, ne_apart}
pub use Rattle.proxy_history.proofs.Lists.{filter_map_is}
pub use Rattle.proxy_history.proofs.Sound.{contains-without_self as contains_without}

pub map_pointwise : {X Y : Type 0} (f g : X → Y) → ((x : X) → f x ≡ g x) → (xs : List X) → map f xs ≡ map g xs
map_pointwise f g h [] = refl
map_pointwise f g h (x ∷ xs) = rw (h x, map_pointwise f g h xs) refl

pub map_agrees : {X Y : Type 0} (f g : X → Y) (xs : List X) → AllByRecursion (λ x. f x ≡ g x) xs → map f xs ≡ map g xs
map_agrees f g [] all = refl
map_agrees f g (x ∷ xs) all = rw (all.0, map_agrees f g xs all.1) refl

pub filter_passes : {X : Type 0} (p : X → Bool) (xs : List X) → AllByRecursion (λ x. p x ≡ true) xs → filter p xs ≡ xs
filter_passes p [] all = refl
filter_passes p (x ∷ xs) all = rw (all.0, filter_passes p xs all.1) refl

-- where f and g differ only on what is filtered out
pub map_on_filter : {X Y : Type 0} (p : X → Bool) (f g : X → Y) → ((x : X) → p x ≡ true → f x ≡ g x) → (xs : List X) → map f (filter p xs) ≡ map g (filter p xs)
map_on_filter p f g h [] = refl
map_on_filter p f g h (x ∷ xs) =
    let step : (b : Bool) → p x ≡ b → map f (cond b (x ∷ filter p xs) (filter p xs)) ≡ map g (cond b (x ∷ filter p xs) (filter p xs)) =
    λ b e. elim b as (λ b. p x ≡ b → map f (cond b (x ∷ filter p xs) (filter p xs)) ≡ map g (cond b (x ∷ filter p xs) (filter p xs))) [
      | true ↦ λ e. rw (h x e, map_on_filter p f g h xs) refl
      | false ↦ λ e. map_on_filter p f g h xs
    ] e
    in step (p x) refl

-- a name above all is not there
pub without_above : (c last : ℕ) → last < c → (xs : List ℕ) → AllByRecursion (λ x. x ≤ last) xs → without c xs ≡ xs
without_above c last lt [] h = refl
without_above c last lt (x ∷ xs) h =
    let ne : (c == x) ≡ false = grind (arith, nat_tests, h.0) in
    rw (ne, without_above c last lt xs h.1) refl

pub map_apart : {X : Type 0} (c : ℕ) (ps : List ℕ) (f g : ℕ → X) → ((d : ℕ) → (c == d) ≡ false → f d ≡ g d) → contains c ps ≡ true →
    (xs : List ℕ) → AllByRecursion (λ d. contains d ps ≡ false) xs → map f xs ≡ map g xs
map_apart c ps f g h there [] a = refl
map_apart c ps f g h there (x ∷ xs) a = rw (h x (ne_apart c x ps there a.0), map_apart c ps f g h there xs a.1) refl

pub apart_more : (c : ℕ) (ps xs : List ℕ) → AllByRecursion (λ d. contains d ps ≡ false) xs → AllByRecursion (λ d. contains d (without c ps) ≡ false) (xs ++ c ∷ [])
apart_more c ps [] a = (contains_without c ps, tt)
apart_more c ps (x ∷ xs) a = (contains_filter x (λ y. not (c == y)) ps a.0, apart_more c ps xs a.1)

pub apart_still : (c : ℕ) (ps xs : List ℕ) → AllByRecursion (λ d. contains d ps ≡ false) xs → AllByRecursion (λ d. contains d (without c ps) ≡ false) xs
apart_still c ps [] a = tt
apart_still c ps (x ∷ xs) a = (contains_filter x (λ y. not (c == y)) ps a.0, apart_still c ps xs a.1)

-- another one that is there without this one
pub without_contains : (c d : ℕ) (xs : List ℕ) → contains d (without c xs) ≡ true → ((c == d) ≡ false) × (contains d xs ≡ true)
without_contains c d [] e = absurd (cc)
without_contains c d (x ∷ xs) e =
    let Both : Type 0 = ((c == d) ≡ false) × ((d == x || contains d xs) ≡ true) in
    let step : (b : Bool) → (c == x) ≡ b → contains d (cond (not b) (x ∷ without c xs) (without c xs)) ≡ true → Both =
    λ b. elim b as (λ b. (c == x) ≡ b → contains d (cond (not b) (x ∷ without c xs) (without c xs)) ≡ true → Both) [
      | true ↦ λ is at. let rest = without_contains c d xs at in (rest.0, or_right (d == x) (contains d xs) rest.1)
      | false ↦ λ is at.
          let inner : (t : Bool) → (d == x) ≡ t → (t || contains d (without c xs)) ≡ true → ((c == d) ≡ false) × ((t || contains d xs) ≡ true) =
          λ t. elim t as (λ t. (d == x) ≡ t → (t || contains d (without c xs)) ≡ true → ((c == d) ≡ false) × ((t || contains d xs) ≡ true)) [
            | true ↦ λ same h. (ap (λ (n : ℕ). c == n) (eqb-true d x same) ∙ is, refl)
            | false ↦ λ same h. without_contains c d xs h
          ]
          in inner (d == x) refl at
    ]
    in step (c == x) refl e

pub map_absent : {X : Type 0} (c : ℕ) (f g : ℕ → X) → ((d : ℕ) → (c == d) ≡ false → f d ≡ g d) → (xs : List ℕ) → contains c xs ≡ false → map f xs ≡ map g xs
map_absent c f g h [] out = refl
map_absent c f g h (x ∷ xs) out =
    let parts : (b : Bool) → (b || contains c xs) ≡ false → (b ≡ false) × (contains c xs ≡ false) =
    λ b. elim b as (λ b. (b || contains c xs) ≡ false → (b ≡ false) × (contains c xs ≡ false)) [ true ↦ λ e. absurd (cc) | false ↦ λ e. (refl, e) ]
    in
    let both = parts (c == x) out in
    rw (h x both.0, map_absent c f g h xs both.1) refl
