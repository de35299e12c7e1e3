-- The number that is given is free.
use Rattle.std.proofs.Common.{◌≡◌, ◌≢◌, ℕ, zero, suc, ◌+◌, ◌-◌, ◌<◌, ◌≤◌, Bool, true, false, not, cond, ◌||◌, List, [], ◌∷◌, length, refl, ap, sym, ◌∙◌, arith, None, ◌==◌, if◌then◌else◌, nat_lt, subst, IsSomeAnd}
use Rattle.std.proofs.lemmas.Bool.Decides.{nat_tests}
use Rattle.proxy_history.specs.Connections.{contains, without}
use Rattle.proxy_history.specs.Requests.{free_from, following, number_after}
use Rattle.proxy_history.specs.Laws.{number_behind, IsFirstFree}

-- the number reached from n after so many steps, fewer than top
ahead : ℕ → ℕ → ℕ → ℕ
ahead top n i = if nat_lt top (n + i) then n + i - top else n + i

following_is : (top n i : ℕ) → 1 ≤ n → n ≤ top → i + 1 < top → ahead top (following top n) i ≡ ahead top n (i + 1)
unfolding ahead
following_is top n i a b c = grind (arith, nat_tests)

following_within : (top n : ℕ) → 1 ≤ n → n ≤ top → (1 ≤ following top n) × (following top n ≤ top)
following_within top n a b = (grind (arith, nat_tests), grind (arith, nat_tests))

ahead_other : (top n i : ℕ) → 1 ≤ n → n ≤ top → i + 1 < top → ahead top n (i + 1) ≢ n
unfolding ahead
ahead_other top n i a b c = grind (arith, nat_tests)

pub contains_other : (x y : ℕ) (xs : List ℕ) → (x == y) ≡ false → contains y (without x xs) ≡ contains y xs
contains_other x y [] ne = refl
contains_other x y (z ∷ zs) ne =
    let step : (b : Bool) → (x == z) ≡ b → contains y (cond (not b) (z ∷ without x zs) (without x zs)) ≡ (y == z || contains y zs) =
    λ b. elim b as (λ b. (x == z) ≡ b → contains y (cond (not b) (z ∷ without x zs) (without x zs)) ≡ (y == z || contains y zs)) [
      | true ↦ λ e.
          let yz : (y == z) ≡ false = grind (arith, nat_tests, ne, e) in
          contains_other x y zs ne ∙ sym (ap (λ b. b || contains y zs) yz)
      | false ↦ λ e. ap (λ b. y == z || b) (contains_other x y zs ne)
    ]
    in step (x == z) refl

pub without_le : (x : ℕ) (xs : List ℕ) → length (without x xs) ≤ length xs
without_le x [] = omega arith
without_le x (z ∷ zs) = elim (x == z) as (λ b. length (cond (not b) (z ∷ without x zs) (without x zs)) ≤ suc (length zs)) [ true ↦ omega (arith, without_le x zs) | false ↦ omega (arith, without_le x zs) ]

without_less : (x : ℕ) (xs : List ℕ) → contains x xs ≡ true → length (without x xs) < length xs
without_less x [] e = absurd (cc)
without_less x (z ∷ zs) e =
    let step : (b : Bool) → (b || contains x zs) ≡ true → length (cond (not b) (z ∷ without x zs) (without x zs)) < suc (length zs) =
    λ b. elim b as (λ b. (b || contains x zs) ≡ true → length (cond (not b) (z ∷ without x zs) (without x zs)) < suc (length zs)) [
      | true ↦ λ e. omega (arith, without_le x zs)
      | false ↦ λ e. omega (arith, without_less x zs e)
    ]
    in step (x == z) e

pub free_used : (k top : ℕ) (used : List ℕ) (n : ℕ) → contains n used ≡ true → free_from (suc k) top used n ≡ free_from k top used (following top n)
unfolding free_from
free_used k top used n e = rw (e, free_from) refl

free_here : (k top : ℕ) (used : List ℕ) (n : ℕ) → contains n used ≡ false → free_from (suc k) top used n ≡ n
unfolding free_from
free_here k top used n e = rw (e, free_from) refl

free_last : (top : ℕ) (used : List ℕ) (n : ℕ) → free_from zero top used n ≡ n
unfolding free_from
free_last top used n = refl

ahead_none : (top n : ℕ) → n ≤ top → ahead top n 0 ≡ n
unfolding ahead
ahead_none top n le = grind (arith, nat_tests)

-- what holds of each number ahead holds of the one that is given
given_is : (P : ℕ → Type 0) (k top : ℕ) (used : List ℕ) (n : ℕ) → 1 ≤ n → n ≤ top → k < top → ((i : ℕ) → i ≤ k → P (ahead top n i)) → P (free_from k top used n)
given_is P zero top used n a b c h = rw (free_last top used n, ← ahead_none top n b) (h 0 (omega arith))
given_is P (suc k) top used n a b c h =
    let step : (w : Bool) → contains n used ≡ w → P (free_from (suc k) top used n) =
    λ w. elim w as (λ w. contains n used ≡ w → P (free_from (suc k) top used n)) [
      | true ↦ λ e. subst P (sym (free_used k top used n e)) (given_is P k top used (following top n) (following_within top n a b).0 (following_within top n a b).1 (omega arith)
          (λ i le. subst P (sym (following_is top n i a b (omega arith))) (h (i + 1) (omega arith))))
      | false ↦ λ e. subst P (ahead_none top n b ∙ sym (free_here k top used n e)) (h 0 (omega arith))
    ]
    in step (contains n used) refl

same_without : (x k top : ℕ) (used : List ℕ) (n : ℕ) → 1 ≤ n → n ≤ top → k < top → ((i : ℕ) → i ≤ k → ahead top n i ≢ x) → free_from k top used n ≡ free_from k top (without x used) n
same_without x zero top used n a b c h = free_last top used n ∙ sym (free_last top (without x used) n)
same_without x (suc k) top used n a b c h =
    let xn : (x == n) ≡ false = let ne : n ≢ x = subst (λ (m : ℕ). m ≢ x) (ahead_none top n b) (h 0 (omega arith)) in grind (arith, nat_tests) in
    let step : (w : Bool) → contains n used ≡ w → free_from (suc k) top used n ≡ free_from (suc k) top (without x used) n =
    λ w. elim w as (λ w. contains n used ≡ w → free_from (suc k) top used n ≡ free_from (suc k) top (without x used) n) [
      | true ↦ λ e.
          free_used k top used n e
          ∙ same_without x k top used (following top n) (following_within top n a b).0 (following_within top n a b).1 (omega arith)
          (λ i le. subst (λ (m : ℕ). m ≢ x) (sym (following_is top n i a b (omega arith))) (h (i + 1) (omega arith)))
          ∙ sym (free_used k top (without x used) n (contains_other x n used xn ∙ e))
      | false ↦ λ e. free_here k top used n e ∙ sym (free_here k top (without x used) n (contains_other x n used xn ∙ e))
    ]
    in step (contains n used) refl

-- with fewer numbers in use than there are steps, the number that is given is free
pub given_free : (k top : ℕ) (used : List ℕ) (n : ℕ) → 1 ≤ n → n ≤ top → k < top → length used ≤ k → contains (free_from k top used n) used ≡ false
given_free zero top [] n a b c h = refl
given_free zero top (x ∷ used) n a b c h = absurd (omega (arith, h))
given_free (suc k) top used n a b c h =
    let step : (w : Bool) → contains n used ≡ w → contains (free_from (suc k) top used n) used ≡ false =
    λ w. elim w as (λ w. contains n used ≡ w → contains (free_from (suc k) top used n) used ≡ false) [
      | true ↦ λ e.
          let r : ℕ = free_from k top (without n used) (following top n) in
          let ahead_ne : (i : ℕ) → i ≤ k → ahead top (following top n) i ≢ n =
          λ i le. subst (λ (m : ℕ). m ≢ n) (sym (following_is top n i a b (omega arith))) (ahead_other top n i a b (omega arith))
          in
          let same : free_from (suc k) top used n ≡ r =
          free_used k top used n e ∙ same_without n k top used (following top n) (following_within top n a b).0 (following_within top n a b).1 (omega arith) ahead_ne
          in
          let other : r ≢ n = given_is (λ m. m ≢ n) k top (without n used) (following top n) (following_within top n a b).0 (following_within top n a b).1 (omega arith) ahead_ne in
          let nr : (n == r) ≡ false = grind (arith, nat_tests, other) in
          let free : contains r (without n used) ≡ false =
          given_free k top (without n used) (following top n) (following_within top n a b).0 (following_within top n a b).1 (omega arith) (omega (arith, without_less n used e))
          in ap (λ m. contains m used) same ∙ sym (contains_other n r used nr) ∙ free
      | false ↦ λ e. ap (λ m. contains m used) (free_here k top used n e) ∙ e
    ]
    in step (contains n used) refl

ahead_within : (top n i : ℕ) → 1 ≤ n → n ≤ top → i < top → (1 ≤ ahead top n i) × (ahead top n i ≤ top)
unfolding ahead
ahead_within top n i a b c = (grind (arith, nat_tests), grind (arith, nat_tests))

-- the number that is given is one of the space
given_within : (k top : ℕ) (used : List ℕ) (n : ℕ) → 1 ≤ n → n ≤ top → k < top → (1 ≤ free_from k top used n) × (free_from k top used n ≤ top)
given_within k top used n a b c = given_is (λ (m : ℕ). (1 ≤ m) × (m ≤ top)) k top used n a b c (λ i le. ahead_within top n i a b (omega arith))

-- the numbers that come before the one that is given are used
record Passed (top start : ℕ) (used : List ℕ) (number : ℕ) : Type 0 where
  passed : ℕ
  reached : number ≡ number_behind top start passed
  others : (count : ℕ) → count < passed → contains (number_behind top start count) used ≡ true

behind_none : (top n : ℕ) → number_behind top n 0 ≡ n
unfolding number_behind
behind_none top n = refl

behind_more : (top n count : ℕ) → number_behind top n (suc count) ≡ number_behind top (following top n) count
unfolding number_behind
behind_more top n count = refl

passes : (top : ℕ) (used : List ℕ) (n passed : ℕ) → contains n used ≡ true → ((count : ℕ) → count < passed → contains (number_behind top (following top n) count) used ≡ true)
    → (count : ℕ) → count < suc passed → contains (number_behind top n count) used ≡ true
passes top used n passed e h zero lt = ap (λ (m : ℕ). contains m used) (behind_none top n) ∙ e
passes top used n passed e h (suc count) lt = ap (λ (m : ℕ). contains m used) (behind_more top n count) ∙ h count (omega arith)

given_passed : (k top : ℕ) (used : List ℕ) (n : ℕ) → Passed top n used (free_from k top used n)
given_passed zero top used n = record { passed = 0; reached = free_last top used n ∙ sym (behind_none top n); others = λ count lt. absurd (omega arith) }
given_passed (suc k) top used n =
    let step : (w : Bool) → contains n used ≡ w → Passed top n used (free_from (suc k) top used n) =
    λ w. elim w as (λ w. contains n used ≡ w → Passed top n used (free_from (suc k) top used n)) [
      | true ↦ λ e. let rest = given_passed k top used (following top n) in record {
        passed = suc rest.passed;
        reached = free_used k top used n e ∙ rest.reached ∙ sym (behind_more top n rest.passed);
        others = passes top used n rest.passed e rest.others;
      }
      | false ↦ λ e. record { passed = 0; reached = free_here k top used n e ∙ sym (behind_none top n); others = λ count lt. absurd (omega arith) }
    ]
    in step (contains n used) refl

pub number_after-free : (limit top last : ℕ) (used : List ℕ) → limit ≤ top → last ≤ top → length used < limit → IsSomeAnd (number_after limit top last used) (IsFirstFree top (following top last) used)
number_after-free limit top last used within low few =
    let start = following_in top last (omega arith) low in
    let test : nat_lt (length used) limit ≡ true = grind (arith, nat_tests) in
    let range = given_within (length used) top used (following top last) start.0 start.1 (omega arith) in
    let before = given_passed (length used) top used (following top last) in
    rw test (record {
      from_one = range.0;
      to_top = range.1;
      unused = given_free (length used) top used (following top last) start.0 start.1 (omega arith) (omega arith);
      passed = before.passed;
      reached = before.reached;
      others = before.others;
    })
  where
    following_in : (top n : ℕ) → 1 ≤ top → n ≤ top → (1 ≤ following top n) × (following top n ≤ top)
    following_in top n a b = (grind (arith, nat_tests), grind (arith, nat_tests))

pub number_after-none : (limit top last : ℕ) (used : List ℕ) → limit ≤ length used → number_after limit top last used ≡ None
number_after-none limit top last used full = let test : nat_lt (length used) limit ≡ false = grind (arith, nat_tests) in rw test refl
