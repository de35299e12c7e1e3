-- The names of the connections that are there.
use Rattle.std.proofs.Common.{◌≡◌, ℕ, ◌<◌, ◌≤◌, Bool, true, false, not, cond, List, [], ◌∷◌, ◌++◌, filter, arith, ◌==◌}
use Rattle.std.specs.List.{AllByRecursion, IsDistinct}
use Rattle.std.proofs.lemmas.Bool.Decides.{nat_tests}
use Rattle.kit_bytes.proofs.Lists.{all_filter}
use Rattle.proxy_history.specs.Connections.{without}
use Rattle.proxy_state.specs.Stands.{AreNames}

pub distinct_filter : (p : ℕ → Bool) (xs : List ℕ) → IsDistinct (λ x y. x == y) xs → IsDistinct (λ x y. x == y) (filter p xs)
unfolding IsDistinct
distinct_filter p [] h = tt
distinct_filter p (x ∷ xs) h =
    elim (p x) as (λ b. IsDistinct (λ x y. x == y) (cond b (x ∷ filter p xs) (filter p xs))) [
      | true ↦ (all_filter (λ y. (x == y) ≡ false) p xs h.0, distinct_filter p xs h.1)
      | false ↦ distinct_filter p xs h.1
    ]

differs_from_new : (c greatest x : ℕ) → greatest < c → x ≤ greatest → (xs : List ℕ) → AllByRecursion (λ y. (x == y) ≡ false) xs → AllByRecursion (λ y. (x == y) ≡ false) (xs ++ c ∷ [])
differs_from_new c greatest x above known [] h = (grind (arith, nat_tests), tt)
differs_from_new c greatest x above known (y ∷ ys) h = (h.0, differs_from_new c greatest x above known ys h.1)

distinct_more : (c greatest : ℕ) → greatest < c → (xs : List ℕ) → AllByRecursion (λ x. x ≤ greatest) xs → IsDistinct (λ x y. x == y) xs → IsDistinct (λ x y. x == y) (xs ++ c ∷ [])
unfolding IsDistinct
distinct_more c greatest above [] h d = (tt, tt)
distinct_more c greatest above (x ∷ xs) h d = (differs_from_new c greatest x above h.0 xs d.0, distinct_more c greatest above xs h.1 d.1)

known_more : (c greatest : ℕ) → greatest < c → (xs : List ℕ) → AllByRecursion (λ x. x ≤ greatest) xs → AllByRecursion (λ x. x ≤ c) (xs ++ c ∷ [])
known_more c greatest above [] h = (omega arith, tt)
known_more c greatest above (x ∷ xs) h = (omega (arith, h.0), known_more c greatest above xs h.1)

known_still : (c greatest : ℕ) → greatest < c → (xs : List ℕ) → AllByRecursion (λ x. x ≤ greatest) xs → AllByRecursion (λ x. x ≤ c) xs
known_still c greatest above [] h = tt
known_still c greatest above (x ∷ xs) h = (omega (arith, h.0), known_still c greatest above xs h.1)

pub names_without : (greatest c : ℕ) (xs : List ℕ) → AreNames greatest xs → AreNames greatest (without c xs)
names_without greatest c xs names = record {
  known = all_filter (λ x. x ≤ greatest) (λ x. not (c == x)) xs names.known;
  distinct = distinct_filter (λ x. not (c == x)) xs names.distinct;
}

pub names_more : (greatest c : ℕ) (xs : List ℕ) → greatest < c → AreNames greatest xs → AreNames c (xs ++ c ∷ [])
names_more greatest c xs above names = record { known = known_more c greatest above xs names.known; distinct = distinct_more c greatest above xs names.known names.distinct }

pub names_still : (greatest c : ℕ) (xs : List ℕ) → greatest < c → AreNames greatest xs → AreNames c xs
names_still greatest c xs above names = record { known = known_still c greatest above xs names.known; distinct = names.distinct }
