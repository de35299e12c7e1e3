-- In a sound history no more is there or in use than may be.
use Rattle.std.proofs.Common.{◌≡◌, ℕ, ◌+◌, ◌<◌, ◌≤◌, Bool, true, false, not, cond, ◌==◌, if◌then◌else◌, List, [], ◌∷◌, ◌++◌, length, refl, sym, ◌∙◌, arith, filter, subst, Some, None, nat_lt, length-append}
use Rattle.std.proofs.lemmas.Bool.Decides.{nat_tests}
use Rattle.proxy_history.specs.Limits.{Limits}
use Rattle.proxy_history.specs.Facts.{Fact, Request, Admitted, Ended, Forwarded, Answered, IdHeld, Late, Reset, ModemLost}
use Rattle.proxy_history.specs.Connections.{present}
use Rattle.proxy_history.specs.Requests.{in_use, number_after, last_number, of_space, numbers_of, numbers_in_use}
use Rattle.proxy_history.specs.Sound.{IsSound}
use Rattle.proxy_history.proofs.Numbers.{number_after-none, without_le}
use Rattle.proxy_history.proofs.Sound.{next_of}

-- how many of the requests are of the space
count_of : ℕ → List Request → ℕ
count_of space requests = length (numbers_of (of_space space requests))

count_of-push : (space : ℕ) (requests : List Request) (r : Request) → count_of space (requests ++ r ∷ []) ≡ count_of space requests + (if r.space == space then 1 else 0)
unfolding count_of
count_of-push space [] r = elim (r.space == space) as (λ b. length (numbers_of (cond b (r ∷ []) [])) ≡ 0 + (if b then 1 else 0)) [ true ↦ refl | false ↦ refl ]
count_of-push space (q ∷ requests) r =
    let more = count_of-push space requests r in
    elim (q.space == space) as (λ b. length (numbers_of (cond b (q ∷ of_space space (requests ++ r ∷ [])) (of_space space (requests ++ r ∷ []))))
    ≡ length (numbers_of (cond b (q ∷ of_space space requests) (of_space space requests))) + (if r.space == space then 1 else 0)) [
      | true ↦ omega (arith, more)
      | false ↦ more
    ]

count_of-filter : (space : ℕ) (p : Request → Bool) (requests : List Request) → count_of space (filter p requests) ≤ count_of space requests
unfolding count_of
count_of-filter space p [] = omega arith
count_of-filter space p (q ∷ requests) =
    let less = count_of-filter space p requests in
    elim (p q) as (λ a. length (numbers_of (of_space space (cond a (q ∷ filter p requests) (filter p requests)))) ≤ length (numbers_of (cond (q.space == space) (q ∷ of_space space requests) (of_space space requests)))) [
      | true ↦ elim (q.space == space) as (λ b. length (numbers_of (cond b (q ∷ of_space space (filter p requests)) (of_space space (filter p requests)))) ≤ length (numbers_of (cond b (q ∷ of_space space requests) (of_space space requests)))) [
        | true ↦ omega (arith, less)
        | false ↦ less
      ]
      | false ↦ elim (q.space == space) as (λ b. length (numbers_of (of_space space (filter p requests))) ≤ length (numbers_of (cond b (q ∷ of_space space requests) (of_space space requests)))) [
        | true ↦ omega (arith, less)
        | false ↦ less
      ]
    ]

-- a number is found where fewer than the limit are in use
found_is_few : (low high last : ℕ) (used : List ℕ) (n : ℕ) → number_after low high last used ≡ Some n → length used < low
found_is_few low high last used n found =
    let step : (b : Bool) → nat_lt (length used) low ≡ b → length used < low =
    λ b. elim b as (λ b. nat_lt (length used) low ≡ b → length used < low) [
      | true ↦ λ e. grind (arith, nat_tests, e)
      | false ↦ λ e. let full : low ≤ length used = grind (arith, nat_tests, e) in absurd (let clash : None ≡ Some n = sym (number_after-none low high last used full) ∙ found in cc)
    ]
    in step (nat_lt (length used) low) refl

module _ (limits : Limits) where
  pub few_are_present : (facts : List Fact) → IsSound limits facts → length (present facts) ≤ limits.connections
  unfolding present
  few_are_present [] s = omega arith
  few_are_present (Admitted c ∷ past) s = omega (arith, s.0, length-append (present past) (c ∷ []))
  few_are_present (Ended c why ∷ past) s = omega (arith, few_are_present past s.1, without_le c (present past))
  few_are_present (_ ∷ past) s = few_are_present past s.1

  few_of_space : (facts : List Fact) (space : ℕ) → IsSound limits facts → count_of space (in_use facts) ≤ limits.in_use space
  unfolding in_use count_of
  few_of_space [] space s = omega arith
  few_of_space (Forwarded r ∷ past) space s =
      let few = found_is_few (limits.in_use r.space) (limits.top r.space) (last_number r.space past) (numbers_in_use r.space past) r.number (next_of limits r past s).number in
      let before = few_of_space past space s.1 in
      let more = count_of-push space (in_use past) r in
      let step : (b : Bool) → (r.space == space) ≡ b → count_of space (in_use past) + (if b then 1 else 0) ≤ limits.in_use space =
      λ b. elim b as (λ b. (r.space == space) ≡ b → count_of space (in_use past) + (if b then 1 else 0) ≤ limits.in_use space) [
        | true ↦ λ e.
            let same : r.space ≡ space = grind (arith, nat_tests, e) in
            let here : count_of space (in_use past) < limits.in_use space = subst (λ (x : ℕ). count_of x (in_use past) < limits.in_use x) same few in
            omega (arith, here)
        | false ↦ λ e. omega (arith, before)
      ]
      in subst (λ (n : ℕ). n ≤ limits.in_use space) (sym more) (step (r.space == space) refl)
  few_of_space (Answered r message ∷ past) space s = omega (arith, few_of_space past space s.1, count_of-filter space (λ q. not (r.serial == q.serial)) (in_use past))
  few_of_space (IdHeld r ∷ past) space s = omega (arith, few_of_space past space s.1, count_of-filter space (λ q. not (r.serial == q.serial)) (in_use past))
  few_of_space (Late r ∷ past) space s = omega (arith, few_of_space past space s.1, count_of-filter space (λ q. not (r.serial == q.serial)) (in_use past))
  few_of_space (Reset ∷ past) space s = omega arith
  few_of_space (ModemLost ∷ past) space s = omega arith
  few_of_space (_ ∷ past) space s = few_of_space past space s.1

  pub few_are_in_use : (facts : List Fact) (space : ℕ) → IsSound limits facts → length (numbers_in_use space facts) ≤ limits.in_use space
  unfolding count_of
  few_are_in_use facts space s = few_of_space facts space s
