-- Filters of lists of requests that are told apart by their serial numbers.
use Rattle.std.proofs.Common.{◌≡◌, ◌≤◌, Bool, true, false, cond, ◌&&◌, ◌||◌, ◌==◌, List, [], ◌∷◌, length, filter, refl, ap, sym, ◌∙◌, arith}
use Rattle.std.specs.List.{AllByRecursion}
use Rattle.std.proofs.lemmas.Bool.Decides.{nat_tests}
use Rattle.std.proofs.lemmas.Bool.{eq-eqb, or_right}
use Rattle.kit_bytes.proofs.Lists.{all_passing}
use Rattle.proxy_history.specs.Facts.{Request}
use Rattle.proxy_history.specs.Requests.{has_request}

pub filter_both : {X : Type 0} (p q : X → Bool) (xs : List X) → filter p (filter q xs) ≡ filter (λ x. q x && p x) xs
filter_both p q [] = refl
filter_both p q (x ∷ xs) =
    elim (q x) as (λ b. filter p (cond b (x ∷ filter q xs) (filter q xs)) ≡ cond (b && p x) (x ∷ filter (λ x. q x && p x) xs) (filter (λ x. q x && p x) xs)) [
      | true ↦ ap (λ l. cond (p x) (x ∷ l) l) (filter_both p q xs)
      | false ↦ filter_both p q xs
    ]

pub filter_swap : {X : Type 0} (p q : X → Bool) (xs : List X) → filter p (filter q xs) ≡ filter q (filter p xs)
filter_swap p q [] = refl
filter_swap {X = X} p q (x ∷ xs) =
    let Swapped : Bool → Bool → Type 0 = λ (b : Bool) (c : Bool). filter p (cond b (x ∷ filter q xs) (filter q xs)) ≡ filter q (cond c (x ∷ filter p xs) (filter p xs)) in
    let step : (b c : Bool) → q x ≡ b → p x ≡ c → Swapped b c =
    λ b c. elim b as (λ b. q x ≡ b → p x ≡ c → Swapped b c) [
      | true ↦ λ e f. elim c as (λ c. p x ≡ c → Swapped true c) [
        | true ↦ λ f. ap (λ (t : Bool). cond t (x ∷ filter p (filter q xs)) (filter p (filter q xs))) f ∙ ap (λ (l : List X). x ∷ l) (filter_swap p q xs) ∙ ap (λ (t : Bool). cond t (x ∷ filter q (filter p xs)) (filter q (filter p xs))) (sym e)
        | false ↦ λ f. ap (λ (t : Bool). cond t (x ∷ filter p (filter q xs)) (filter p (filter q xs))) f ∙ filter_swap p q xs
      ] f
      | false ↦ λ e f. elim c as (λ c. Swapped false c) [
        | true ↦ filter_swap p q xs ∙ ap (λ (t : Bool). cond t (x ∷ filter q (filter p xs)) (filter q (filter p xs))) (sym e)
        | false ↦ filter_swap p q xs
      ]
    ]
    in step (q x) (p x) refl refl

pub filter_agree : {X : Type 0} (p q : X → Bool) (xs : List X) → AllByRecursion (λ x. p x ≡ q x) xs → filter p xs ≡ filter q xs
filter_agree p q [] all = refl
filter_agree {X = X} p q (x ∷ xs) all = ap (λ (b : Bool). cond b (x ∷ filter p xs) (filter p xs)) all.0 ∙ ap (λ (l : List X). cond (q x) (x ∷ l) l) (filter_agree p q xs all.1)

pub filter_shorter : {X : Type 0} (p : X → Bool) (xs : List X) → length (filter p xs) ≤ length xs
filter_shorter p [] = omega arith
filter_shorter p (x ∷ xs) =
    let rest = filter_shorter p xs in
    elim (p x) as (λ b. length (cond b (x ∷ filter p xs) (filter p xs)) ≤ length (x ∷ xs)) [ true ↦ omega arith | false ↦ omega arith ]

-- ---- requests ----

pub AreDistinct : List Request → Type 0
AreDistinct [] = Unit {0}
AreDistinct (r ∷ requests) = AllByRecursion (λ (q : Request). (r.serial == q.serial) ≡ false) requests × AreDistinct requests

pub distinct_none : AreDistinct []
unfolding AreDistinct
distinct_none = tt

pub distinct_more : (r : Request) (requests : List Request) → AllByRecursion (λ (q : Request). (r.serial == q.serial) ≡ false) requests → AreDistinct requests → AreDistinct (r ∷ requests)
unfolding AreDistinct
distinct_more r requests all distinct = (all, distinct)

has_none : (r : Request) (requests : List Request) → AllByRecursion (λ (q : Request). (r.serial == q.serial) ≡ false) requests → has_request r requests ≡ false
has_none r [] all = refl
has_none r (q ∷ requests) all = ap (λ (b : Bool). b || has_request r requests) all.0 ∙ has_none r requests all.1

module _ (p : Request → Bool) where
  pub has_filtered : (r : Request) (requests : List Request) → has_request r (filter p requests) ≡ true → has_request r requests ≡ true
  has_filtered r [] e = e
  has_filtered r (q ∷ requests) e =
      let Has : Bool → Type 0 = λ (b : Bool). has_request r (cond b (q ∷ filter p requests) (filter p requests)) ≡ true → (r.serial == q.serial || has_request r requests) ≡ true in
      let step : (b : Bool) → Has b = λ b. elim b as Has [
        | true ↦ λ e. elim (r.serial == q.serial) as (λ t. (t || has_request r (filter p requests)) ≡ true → (t || has_request r requests) ≡ true) [ true ↦ λ e. refl | false ↦ λ e. has_filtered r requests e ] e
        | false ↦ λ e. or_right (r.serial == q.serial) _ (has_filtered r requests e)
      ]
      in step (p q) e

  -- what a filter keeps is what passes it
  pub has_passing : (requests : List Request) → AreDistinct requests → AllByRecursion (λ (q : Request). p q ≡ has_request q (filter p requests)) requests
  unfolding AreDistinct
  has_passing [] distinct = tt
  has_passing (r ∷ requests) distinct = (
    first,
    later requests distinct.0 (has_passing requests distinct.1),
  )
    where
      first : p r ≡ has_request r (cond (p r) (r ∷ filter p requests) (filter p requests))
      first = elim (p r) as (λ b. b ≡ has_request r (cond b (r ∷ filter p requests) (filter p requests))) [
        | true ↦ sym (ap (λ (t : Bool). t || has_request r (filter p requests)) (eq-eqb r.serial r.serial refl))
        | false ↦ sym (has_none r (filter p requests) (all_passing p (λ (q : Request). (r.serial == q.serial) ≡ false) (λ (q : Request). (r.serial == q.serial) ≡ false) (λ q e h. h) requests distinct.0))
      ]

      later : (qs : List Request) → AllByRecursion (λ (q : Request). (r.serial == q.serial) ≡ false) qs → AllByRecursion (λ (q : Request). p q ≡ has_request q (filter p requests)) qs → AllByRecursion (λ (q : Request). p q ≡ has_request q (cond (p r) (r ∷ filter p requests) (filter p requests))) qs
      later [] differ all = tt
      later (q ∷ qs) differ all = (
        (let other : (q.serial == r.serial) ≡ false = grind (arith, nat_tests, differ.0) in
            elim (p r) as (λ b. p q ≡ has_request q (cond b (r ∷ filter p requests) (filter p requests))) [
              | true ↦ all.0 ∙ sym (ap (λ (t : Bool). t || has_request q (filter p requests)) other)
              | false ↦ all.0
            ]),
        later qs differ.1 all.1,
      )

  -- what is left of a selection is what of it is left
  pub left_of : (f g : Request → Bool) (requests : List Request) → AreDistinct requests → filter f (filter g (filter p requests)) ≡ filter (λ q. has_request q (filter p requests)) (filter f (filter g requests))
  left_of f g requests distinct =
      let h : Request → Bool = λ (q : Request). has_request q (filter p requests) in
      ap (λ (l : List Request). filter f (filter g l)) (filter_agree p h requests (has_passing requests distinct))
      ∙ ap (filter f) (filter_swap g h requests)
      ∙ filter_swap f h (filter g requests)
