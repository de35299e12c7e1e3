-- Lists and filters of them.
use Rattle.std.proofs.Common.{◌≡◌, ℕ, ◌<◌, ◌≤◌, Bool, true, false, cond, ◌&&◌, ◌||◌, ◌==◌, List, [], ◌∷◌, map, refl, ap, sym, ◌∙◌, arith, filter}
use Rattle.std.specs.List.{AllByRecursion}
use Rattle.std.proofs.lemmas.Bool.{eqb-true, true≢false}
use Rattle.std.proofs.lemmas.Bool.Decides.{nat_tests}
use Rattle.proxy_history.specs.Connections.{contains}
pub use Rattle.kit_bytes.proofs.Members.{Contains-cons, Contains-cons_cases, Contains-nil, Contains-filter, Contains-filter_from, Contains-filter_passes}

-- a filter of what a function makes
pub filter_map_is : {X Y : Type 0} (p : Y → Bool) (f : X → Y) (xs : List X) → filter p (map f xs) ≡ map f (filter (λ x. p (f x)) xs)
filter_map_is p f [] = refl
filter_map_is p f (x ∷ xs) =
    rw (filter_map_is p f xs) (elim (p (f x)) as (λ b. cond b (f x ∷ map f (filter (λ y. p (f y)) xs)) (map f (filter (λ y. p (f y)) xs)) ≡ map f (cond b (x ∷ filter (λ y. p (f y)) xs) (filter (λ y. p (f y)) xs))) [ true ↦ refl | false ↦ refl ])

-- a filter that keeps all, and one that keeps none
pub filter-all : {X : Type 0} (xs : List X) → filter (λ x. true) xs ≡ xs
filter-all [] = refl
filter-all (x ∷ xs) = ap (λ l. x ∷ l) (filter-all xs)

pub filter-none : {X : Type 0} (xs : List X) → filter (λ x. false) xs ≡ []
filter-none [] = refl
filter-none (x ∷ xs) = filter-none xs

-- ---- names ----

pub contains_filter : (d : ℕ) (p : ℕ → Bool) (xs : List ℕ) → contains d xs ≡ false → contains d (filter p xs) ≡ false
contains_filter d p [] e = refl
contains_filter d p (x ∷ xs) e =
    let parts : (b : Bool) → (b || contains d xs) ≡ false → (b ≡ false) × (contains d xs ≡ false) =
    λ b. elim b as (λ b. (b || contains d xs) ≡ false → (b ≡ false) × (contains d xs ≡ false)) [ true ↦ λ e. absurd (cc) | false ↦ λ e. (refl, e) ]
    in
    let rest : contains d (filter p xs) ≡ false = contains_filter d p xs (parts (d == x) e).1 in
    elim (p x) as (λ b. contains d (cond b (x ∷ filter p xs) (filter p xs)) ≡ false) [
      | true ↦ rw ((parts (d == x) e).0, rest) refl
      | false ↦ rest
    ]

-- none that is apart is one that is there
pub ne_apart : (c d : ℕ) (ps : List ℕ) → contains c ps ≡ true → contains d ps ≡ false → (c == d) ≡ false
ne_apart c d ps there out =
    let step : (b : Bool) → (c == d) ≡ b → b ≡ false =
    λ b. elim b as (λ b. (c == d) ≡ b → b ≡ false) [
      | true ↦ λ e. let same : c ≡ d = eqb-true c d e in absurd (true≢false (sym there ∙ ap (λ x. contains x ps) same ∙ out))
      | false ↦ λ e. refl
    ]
    in step (c == d) refl

-- a new name is not there
pub above_absent : (greatest c : ℕ) → greatest < c → (xs : List ℕ) → AllByRecursion (λ x. x ≤ greatest) xs → contains c xs ≡ false
above_absent greatest c above [] h = refl
above_absent greatest c above (x ∷ xs) h =
    let differs : (c == x) ≡ false = grind (arith, nat_tests, h.0) in
    rw (differs, above_absent greatest c above xs h.1) refl

pub contains_kept : (c : ℕ) (p : ℕ → Bool) (xs : List ℕ) → contains c (filter p xs) ≡ (contains c xs && p c)
contains_kept c p [] = refl
contains_kept c p (x ∷ xs) =
    let Is : Bool → Bool → Type 0 = λ (same : Bool) (kept : Bool). contains c (cond kept (x ∷ filter p xs) (filter p xs)) ≡ ((same || contains c xs) && p c) in
    let step : (same kept : Bool) → (c == x) ≡ same → p x ≡ kept → Is same kept =
    λ same kept. elim same as (λ same. (c == x) ≡ same → p x ≡ kept → Is same kept) [
      | true ↦ λ here is.
          let passes : p c ≡ kept = ap p (eqb-true c x here) ∙ is in
          elim kept as (λ kept. p c ≡ kept → contains c (cond kept (x ∷ filter p xs) (filter p xs)) ≡ p c) [
            | true ↦ λ yes. ap (λ (b : Bool). b || contains c (filter p xs)) here ∙ sym yes
            | false ↦ λ no. contains_kept c p xs ∙ ap (λ (b : Bool). contains c xs && b) no ∙ and_none (contains c xs) ∙ sym no
          ] passes
      | false ↦ λ other is.
          elim kept as (λ kept. contains c (cond kept (x ∷ filter p xs) (filter p xs)) ≡ (contains c xs && p c)) [
            | true ↦ ap (λ (b : Bool). b || contains c (filter p xs)) other ∙ contains_kept c p xs
            | false ↦ contains_kept c p xs
          ]
    ]
    in step (c == x) (p x) refl refl
  where
    and_none : (b : Bool) → (b && false) ≡ false
    and_none true = refl
    and_none false = refl
