-- Lists: a fact of each element, and one element more.
use Rattle.std.proofs.Common.{◌≡◌, ℕ, zero, suc, ◌+◌, ◌<◌, Bool, true, false, cond, List, [], ◌∷◌, ◌++◌, length, filter, map, take, drop, get_or, set, refl, ap, subst, ◌∙◌, arith, ◌≤◌, Some, None, find, nat_lt}
use Rattle.std.proofs.lemmas.List.{append-nil, map_push, take_more}
use Rattle.std.proofs.lemmas.List.Folds.{find_at}
use Rattle.std.proofs.lemmas.Option.{slice_get-get_or, slice_get_past}
use Rattle.std.proofs.lemmas.Bool.Decides.{nat_tests}
use Rattle.std.proofs.lemmas.List.Folds.{concat-append}
use Rattle.std.specs.List.{AllByRecursion, concat, remove, position, position_or_len}

-- ---- a fact of each element ----

module _ {X : Type 0} where
  pub all_weaker : (P Q : X → Type 0) → ((x : X) → P x → Q x) → (xs : List X) → AllByRecursion P xs → AllByRecursion Q xs
  all_weaker P Q weaker [] all = tt
  all_weaker P Q weaker (x ∷ xs) all = (weaker x all.0, all_weaker P Q weaker xs all.1)

  -- of each that passes
  pub all_passing : (p : X → Bool) (P Q : X → Type 0) → ((x : X) → p x ≡ true → P x → Q x) → (xs : List X) → AllByRecursion P xs → AllByRecursion Q (filter p xs)
  all_passing p P Q weaker [] all = tt
  all_passing p P Q weaker (x ∷ xs) all = by (p x) refl (all_passing p P Q weaker xs all.1)
    where
      by : (b : Bool) → p x ≡ b → AllByRecursion Q (filter p xs) → AllByRecursion Q (cond b (x ∷ filter p xs) (filter p xs))
      by true passes rest = (weaker x passes all.0, rest)
      by false fails rest = rest

  pub all_filter : (P : X → Type 0) (p : X → Bool) (xs : List X) → AllByRecursion P xs → AllByRecursion P (filter p xs)
  all_filter P p xs all = all_passing p P P (λ x passes holds. holds) xs all

  pub all_push : (P : X → Type 0) (xs : List X) (x : X) → AllByRecursion P xs → P x → AllByRecursion P (xs ++ x ∷ [])
  all_push P [] x all last = (last, tt)
  all_push P (first ∷ xs) x all last = (all.0, all_push P xs x all.1 last)

  pub all_apart : (P : X → Type 0) (xs ys : List X) → AllByRecursion P (xs ++ ys) → AllByRecursion P xs × AllByRecursion P ys
  all_apart P [] ys all = (tt, all)
  all_apart P (x ∷ xs) ys all = let rest = all_apart P xs ys all.1 in ((all.0, rest.0), rest.1)

  pub all_at : (P : X → Type 0) (xs : List X) (k : ℕ) (d : X) → AllByRecursion P xs → k < length xs → P (get_or xs k d)
  all_at P [] k d all within = absurd (omega arith)
  all_at P (x ∷ xs) zero d all within = all.0
  all_at P (x ∷ xs) (suc k) d all within = all_at P xs k d all.1 (omega arith)

  pub all_from : (P : X → Type 0) (xs : List X) → ((k : ℕ) (d : X) → k < length xs → P (get_or xs k d)) → AllByRecursion P xs
  all_from P [] each = tt
  all_from P (x ∷ xs) each = (each 0 x (omega arith), all_from P xs (λ k d within. each (suc k) d (omega arith)))

  pub all_insert : (P : X → Type 0) (xs : List X) (place : ℕ) (new : X) → AllByRecursion P xs → P new → AllByRecursion P (take place xs ++ new ∷ drop place xs)
  all_insert P xs zero new all here = (here, all)
  all_insert P [] (suc place) new all here = (here, tt)
  all_insert P (x ∷ xs) (suc place) new all here = (all.0, all_insert P xs place new all.1 here)

  pub all_remove : (P : X → Type 0) (xs : List X) (i : ℕ) → AllByRecursion P xs → AllByRecursion P (remove xs i)
  all_remove P [] zero all = tt
  all_remove P [] (suc i) all = tt
  all_remove P (x ∷ xs) zero all = all.1
  all_remove P (x ∷ xs) (suc i) all = (all.0, all_remove P xs i all.1)

  pub all_set : (P : X → Type 0) (xs : List X) (i : ℕ) (new d : X) → (P (get_or xs i d) → P new) → AllByRecursion P xs → AllByRecursion P (set xs i new)
  all_set P [] i new d keeps all = tt
  all_set P (x ∷ xs) zero new d keeps all = (keeps all.0, all.1)
  all_set P (x ∷ xs) (suc i) new d keeps all = (all.0, all_set P xs i new d keeps all.1)

pub all_map : {X Y : Type 0} (P : Y → Type 0) (f : X → Y) (xs : List X) → AllByRecursion (λ x. P (f x)) xs → AllByRecursion P (map f xs)
all_map P f [] all = tt
all_map P f (x ∷ xs) all = (all.0, all_map P f xs all.1)

-- ---- the first that passes a test ----

pub find_first : {X : Type 0} (p : X → Bool) (xs : List X) (i : ℕ) (d : X) → position p xs ≡ Some i → find p xs ≡ Some (get_or xs i d)
find_first p xs i d e =
    let step : (b : Bool) → nat_lt (position_or_len p xs) (length xs) ≡ b → cond b (Some (position_or_len p xs)) None ≡ Some i → find p xs ≡ Some (get_or xs i d) =
    λ b. elim b as (λ b. nat_lt (position_or_len p xs) (length xs) ≡ b → cond b (Some (position_or_len p xs)) None ≡ Some i → find p xs ≡ Some (get_or xs i d)) [
      | true ↦ λ t e.
          let within : position_or_len p xs < length xs = grind (arith, nat_tests, t) in
          let here : position_or_len p xs ≡ i = cc in
          find_at p xs ∙ slice_get-get_or xs (position_or_len p xs) d within ∙ ap (λ (k : ℕ). Some (get_or xs k d)) here
      | false ↦ λ t e. absurd (cc)
    ]
    in step (nat_lt (position_or_len p xs) (length xs)) refl e

pub find_none : {X : Type 0} (p : X → Bool) (xs : List X) → position p xs ≡ None → find p xs ≡ None
find_none p xs e =
    let step : (b : Bool) → nat_lt (position_or_len p xs) (length xs) ≡ b → cond b (Some (position_or_len p xs)) None ≡ None → find p xs ≡ None =
    λ b. elim b as (λ b. nat_lt (position_or_len p xs) (length xs) ≡ b → cond b (Some (position_or_len p xs)) None ≡ None → find p xs ≡ None) [
      | true ↦ λ t e. absurd (cc)
      | false ↦ λ t e. let past : length xs ≤ position_or_len p xs = grind (arith, nat_tests, t) in find_at p xs ∙ slice_get_past xs (position_or_len p xs) past
    ]
    in step (nat_lt (position_or_len p xs) (length xs)) refl e

pub all_found : {X : Type 0} (P : X → Type 0) (p : X → Bool) (xs : List X) (x : X) → AllByRecursion P xs → find p xs ≡ Some x → P x
all_found P p [] x all e = absurd (cc)
all_found P p (y ∷ xs) x all e =
    let step : (b : Bool) → cond b (Some y) (find p xs) ≡ Some x → P x =
    λ b. elim b as (λ b. cond b (Some y) (find p xs) ≡ Some x → P x) [
      | true ↦ λ e. let same : y ≡ x = cc in subst P same all.0
      | false ↦ λ e. all_found P p xs x all.1 e
    ]
    in step (p y) e

-- ---- one element more ----

pub concat-push : (lists : List (List ℕ)) (list : List ℕ) → concat (lists ++ list ∷ []) ≡ concat lists ++ list
concat-push lists list = concat-append lists (list ∷ []) ∙ ap (λ (l : List ℕ). concat lists ++ l) (append-nil list)

-- of lists that look alike up to a place, the next elements may be taken in
pub map-more : {A B C : Type 0} (f : A → C) (g : B → C) (made : List A) (xs : List B) (i : ℕ) (a : A) (x : B) → map f made ≡ map g (take i xs) → i < length xs → f a ≡ g (get_or xs i x)
    → map f (made ++ a ∷ []) ≡ map g (take (i + 1) xs)
map-more f g made xs i a x alike within same =
    let pushed = map_push f made a in
    let taken = ap (map g) (take_more xs i x within) in
    let last = map_push g (take i xs) (get_or xs i x) in
    cc
