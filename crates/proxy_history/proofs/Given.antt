-- A request is forwarded under a number that none has in use, and no two in use have one number.
use Rattle.std.proofs.Common.{◌≡◌, ℕ, zero, suc, ◌≤◌, Bool, true, false, not, cond, ◌||◌, ◌==◌, List, [], ◌∷◌, ◌++◌, refl, ap, sym, ◌∙◌, subst, ⊎_elim, arith, All, AllPairs, Contains, Some, if◌then◌else◌}
use Rattle.std.specs.List.{AllByRecursion}
use Rattle.std.proofs.lemmas.Bool.{eqb-true, eq-eqb, or_right, false_from_ne_true}
use Rattle.std.proofs.lemmas.List.Elements.{All-contains, Contains-append_right}
use Rattle.proxy_history.specs.Limits.{Limits}
use Rattle.proxy_history.specs.Facts.{Fact, Request, Forwarded}
use Rattle.proxy_history.specs.Connections.{contains}
use Rattle.proxy_history.specs.Requests.{in_use, of_space, numbers_of, numbers_in_use, has_request, without_request, first_where}
use Rattle.proxy_history.specs.Sound.{IsSound, Differ}
use Rattle.proxy_history.proofs.Lists.{Contains-cons, Contains-cons_cases, Contains-nil}
use Rattle.proxy_history.proofs.SoundLaws.{in_use_differ}

pub head_all : {X : Type 0} (R : X → X → Type 0) (x : X) (xs : List X) → AllPairs R (x ∷ xs) → All (R x) xs
head_all R x xs all = λ k d within. all 0 (suc k) d (omega arith) (omega arith)

pub tail_pairs : {X : Type 0} (R : X → X → Type 0) (x : X) (xs : List X) → AllPairs R (x ∷ xs) → AllPairs R xs
tail_pairs R x xs all = λ i j d before within. all (suc i) (suc j) d (omega arith) (omega arith)

-- ---- a number that is given ----

differ_from_last : (requests : List Request) (r : Request) → AllPairs Differ (requests ++ r ∷ []) → AllByRecursion (λ q. Differ q r) requests
differ_from_last [] r pairs = tt
differ_from_last (q ∷ requests) r pairs =
    (All-contains (Differ q) (requests ++ r ∷ []) r (head_all Differ q (requests ++ r ∷ []) pairs) (Contains-append_right requests (r ∷ []) r (zero, omega arith, refl)), differ_from_last requests r (tail_pairs Differ q (requests ++ r ∷ []) pairs))

free_of : (requests : List Request) (r : Request) → AllByRecursion (λ q. Differ q r) requests → contains r.number (numbers_of (of_space r.space requests)) ≡ false
free_of [] r all = refl
free_of (q ∷ requests) r all =
    let step : (b : Bool) → (q.space == r.space) ≡ b → contains r.number (numbers_of (cond b (q ∷ of_space r.space requests) (of_space r.space requests))) ≡ false =
    λ b. elim b as (λ b. (q.space == r.space) ≡ b → contains r.number (numbers_of (cond b (q ∷ of_space r.space requests) (of_space r.space requests))) ≡ false) [
      | true ↦ λ same.
          ap (λ (t : Bool). t || contains r.number (numbers_of (of_space r.space requests))) (false_from_ne_true (r.number == q.number) (λ is. all.0.1 (eqb-true q.space r.space same) (sym (eqb-true r.number q.number is))))
          ∙ free_of requests r all.1
      | false ↦ λ differs. free_of requests r all.1
    ]
    in step (q.space == r.space) refl

module _ (limits : Limits) (within : (space : ℕ) → limits.in_use space ≤ limits.top space) where
  sound_behind : (later past : List Fact) → IsSound limits (later ++ past) → IsSound limits past
  sound_behind [] past sound = sound
  sound_behind (fact ∷ later) past sound = sound_behind later past sound.1

  pub numbers_are_free_when_given : (facts later past : List Fact) (r : Request) → IsSound limits facts → facts ≡ later ++ Forwarded r ∷ past → contains r.number (numbers_in_use r.space past) ≡ false
  unfolding in_use
  numbers_are_free_when_given facts later past r sound whole =
      let before : IsSound limits (Forwarded r ∷ past) = sound_behind later (Forwarded r ∷ past) (subst (IsSound limits) whole sound) in
      free_of (in_use past) r (differ_from_last (in_use past) r (in_use_differ limits within (Forwarded r ∷ past) before))

-- ---- one number, one request ----

pub same_number : (xs : List Request) (q r : Request) → AllPairs Differ xs → Contains xs q → Contains xs r → q.space ≡ r.space → q.number ≡ r.number → q ≡ r
same_number [] q r pairs at_q at_r space number = absurd (Contains-nil q at_q)
same_number (x ∷ xs) q r pairs at_q at_r space number =
    let first : All (Differ x) xs = head_all Differ x xs pairs in
    ⊎_elim
    (λ (is_q : x ≡ q). ⊎_elim
    (λ (is_r : x ≡ r). sym is_q ∙ is_r)
    (λ (later_r : Contains xs r). let apart : Differ x r = All-contains (Differ x) xs r first later_r in absurd (apart.1 (ap (λ (y : Request). y.space) is_q ∙ space) (ap (λ (y : Request). y.number) is_q ∙ number)))
    (Contains-cons_cases r x xs at_r))
    (λ (later_q : Contains xs q). ⊎_elim
    (λ (is_r : x ≡ r). let apart : Differ x q = All-contains (Differ x) xs q first later_q in absurd (apart.1 (ap (λ (y : Request). y.space) is_r ∙ sym space) (ap (λ (y : Request). y.number) is_r ∙ sym number)))
    (λ (later_r : Contains xs r). same_number xs q r (tail_pairs Differ x xs pairs) later_q later_r space number)
    (Contains-cons_cases r x xs at_r))
    (Contains-cons_cases q x xs at_q)

-- ---- requests by their serial numbers ----

pub contained_has : (list : List Request) (r : Request) → Contains list r → has_request r list ≡ true
contained_has [] r at = absurd (Contains-nil r at)
contained_has (q ∷ list) r at =
    ⊎_elim
    (λ (same : q ≡ r). ap (λ (b : Bool). b || has_request r list) (eq-eqb r.serial q.serial (ap (λ (x : Request). x.serial) (sym same))))
    (λ (later : Contains list r). ap (λ (b : Bool). (r.serial == q.serial) || b) (contained_has list r later) ∙ or_right (r.serial == q.serial) true refl)
    (Contains-cons_cases r q list at)

pub none_left : (r : Request) (list : List Request) → has_request r (without_request r list) ≡ false
none_left r [] = refl
none_left r (q ∷ list) =
    let step : (b : Bool) → (r.serial == q.serial) ≡ b → has_request r (if not b then q ∷ without_request r list else without_request r list) ≡ false =
    λ b. elim b as (λ b. (r.serial == q.serial) ≡ b → has_request r (if not b then q ∷ without_request r list else without_request r list) ≡ false) [
      | true ↦ λ e. none_left r list
      | false ↦ λ e. ap (λ (t : Bool). t || has_request r (without_request r list)) e ∙ none_left r list
    ]
    in step (r.serial == q.serial) refl

-- the first that passes a test is the only one
pub first_is : (test : Request → Bool) (list : List Request) (r : Request) → ((q : Request) → Contains list q → test q ≡ true → q ≡ r) → Contains list r → test r ≡ true → first_where test list ≡ Some r
first_is test [] r one at passes = absurd (Contains-nil r at)
first_is test (q ∷ list) r one at passes =
    let step : (b : Bool) → test q ≡ b → (if b then Some q else first_where test list) ≡ Some r =
    λ b. elim b as (λ b. test q ≡ b → (if b then Some q else first_where test list) ≡ Some r) [
      | true ↦ λ is. ap (λ (x : Request). Some x) (one q (zero, omega arith, refl) is)
      | false ↦ λ isnt. first_is test list r (λ p at_p is. one p (Contains-cons p q list at_p) is) (⊎_elim (λ (same : q ≡ r). absurd (not_both isnt (ap test same ∙ passes))) (λ (later : Contains list r). later) (Contains-cons_cases r q list at)) passes
    ]
    in step (test q) refl
  where
    not_both : {b : Bool} → b ≡ false → b ≡ true → ⊥
    not_both e f = cc
