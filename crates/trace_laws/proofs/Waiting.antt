-- Requests that differ, and those of them that pass a test.
use Rattle.std.proofs.Common.{◌≡◌, ℕ, suc, ◌+◌, Bool, true, false, not, cond, ◌||◌, ◌==◌, List, [], ◌∷◌, ◌++◌, length, filter, refl, ap, sym, ◌∙◌, arith, AllPairs, Contains}
use Rattle.std.specs.List.{AllByRecursion}
use Rattle.std.proofs.lemmas.Bool.{eqb-true}
use Rattle.std.proofs.lemmas.List.Elements.{All-from_recursion, All-contains}
use Rattle.kit_bytes.proofs.Lists.{all_weaker}
use Rattle.proxy_history.specs.Facts.{Request}
use Rattle.proxy_history.specs.Requests.{without_request, has_request}
use Rattle.proxy_history.specs.Sound.{Differ}
use Rattle.proxy_history.proofs.Given.{tail_pairs}
use Rattle.proxy_state.proofs.Filters.{has_passing}
use Rattle.rig_laws.proofs.Lists.{none_goes}
use Rattle.rig_trace.proofs.Requests.{IsApart, others_apart, distinct}

-- one that is among them is among those that pass where it passes
pub has_if_passes : (p : Request → Bool) (requests : List Request) (r : Request) → AllPairs Differ requests → Contains requests r → has_request r (filter p requests) ≡ p r
has_if_passes p requests r pairs at =
    sym (All-contains (λ (q : Request). p q ≡ has_request q (filter p requests)) requests r (All-from_recursion (λ (q : Request). p q ≡ has_request q (filter p requests)) requests (has_passing p requests (distinct requests pairs))) at)

pub has_append : (r : Request) (one other : List Request) → has_request r (one ++ other) ≡ (has_request r one || has_request r other)
has_append r [] other = refl
has_append r (q ∷ one) other = elim (r.serial == q.serial) as (λ b. (b || has_request r (one ++ other)) ≡ (b || has_request r one || has_request r other)) [ true ↦ refl | false ↦ has_append r one other ]

-- ---- one is left out ----

none_has : (r : Request) (requests : List Request) → has_request r requests ≡ false → AllByRecursion (IsApart r) requests
none_has r [] none = tt
none_has r (q ∷ requests) none =
    let step : (b : Bool) → (r.serial == q.serial) ≡ b → (b || has_request r requests) ≡ false → IsApart r q × AllByRecursion (IsApart r) requests =
    λ b. elim b as (λ b. (r.serial == q.serial) ≡ b → (b || has_request r requests) ≡ false → IsApart r q × AllByRecursion (IsApart r) requests) [ true ↦ λ e none. absurd (cc) | false ↦ λ e none. (e, none_has r requests none) ]
    in step (r.serial == q.serial) refl none

-- one that isn't among them is left out without a change
pub without_none : (r : Request) (requests : List Request) → has_request r requests ≡ false → without_request r requests ≡ requests
without_none r requests none = none_goes r requests (none_has r requests none)

-- one that is among them is one less
pub one_less : (r : Request) (requests : List Request) → AllPairs Differ requests → has_request r requests ≡ true → length (without_request r requests) + 1 ≡ length requests
one_less r [] pairs has = absurd (cc)
one_less r (q ∷ requests) pairs has =
    let step : (b : Bool) → (r.serial == q.serial) ≡ b → (b || has_request r requests) ≡ true → length (cond (not b) (q ∷ without_request r requests) (without_request r requests)) + 1 ≡ suc (length requests) =
    λ b. elim b as (λ b. (r.serial == q.serial) ≡ b → (b || has_request r requests) ≡ true → length (cond (not b) (q ∷ without_request r requests) (without_request r requests)) + 1 ≡ suc (length requests)) [
      | true ↦ λ e has.
          let same : r.serial ≡ q.serial = eqb-true r.serial q.serial e in
          let stay : without_request r requests ≡ requests =
          none_goes r requests (all_weaker (IsApart q) (IsApart r) (λ (p : Request) apart. ap (λ (n : ℕ). n == p.serial) same ∙ apart) requests (others_apart q requests pairs)) in
          let count = ap length stay in
          omega (arith, count)
      | false ↦ λ e has. let rest = one_less r requests (tail_pairs Differ q requests pairs) has in omega (arith, rest)
    ]
    in step (r.serial == q.serial) refl has
