-- The order of client ids, and lists of grants in that order.
use Rattle.std.proofs.Common.{◌≡◌, ℕ, ◌+◌, ◌*◌, ◌<◌, ◌≤◌, Bool, true, false, ◌&&◌, ◌||◌, List, [], ◌∷◌, length, filter, subst, refl, ap, sym, arith, ◌==◌, nat_lt}
use Rattle.std.specs.List.{AllByRecursion}
use Rattle.std.proofs.lemmas.Bool.Decides.{nat_tests}
use Rattle.kit_bytes.specs.Sorted.{IsInOrder}
use Rattle.kit_bytes.proofs.Lists.{all_weaker, all_filter}
use Rattle.proxy_history.specs.ClientIds.{Grant, is_of}
use Rattle.holders.specs.Grants.{is_before, is_behind, AreInOrder, AreBytes}

-- ---- one of three: before, the same, behind ----

pub of_not_before : (s i : ℕ) (g : Grant) → is_of s i g ≡ true → is_before s i g ≡ false
of_not_before s i g of = grind (arith, nat_tests, of)

pub of_not_behind : (s i : ℕ) (g : Grant) → is_of s i g ≡ true → is_behind s i g ≡ false
of_not_behind s i g of = grind (arith, nat_tests, of)

pub before_not_of : (s i : ℕ) (g : Grant) → is_before s i g ≡ true → is_of s i g ≡ false
before_not_of s i g before = grind (arith, nat_tests, before)

pub before_not_behind : (s i : ℕ) (g : Grant) → is_before s i g ≡ true → is_behind s i g ≡ false
before_not_behind s i g before = grind (arith, nat_tests, before)

pub behind_not_of : (s i : ℕ) (g : Grant) → is_behind s i g ≡ true → is_of s i g ≡ false
behind_not_of s i g behind = grind (arith, nat_tests, behind)

pub behind_not_before : (s i : ℕ) (g : Grant) → is_behind s i g ≡ true → is_before s i g ≡ false
behind_not_before s i g behind = grind (arith, nat_tests, behind)

pub behind_else : (s i : ℕ) (g : Grant) → is_before s i g ≡ false → is_of s i g ≡ false → is_behind s i g ≡ true
behind_else s i g before of = grind (arith, nat_tests, before, of)

-- an id that is behind another
pub before_of_behind : (s i : ℕ) (g h : Grant) → is_behind g.service g.cid h ≡ true → is_of s i h ≡ true → is_before s i g ≡ true
before_of_behind s i g h behind of = grind (arith, nat_tests, behind, of)

pub before_before : (s i : ℕ) (g h : Grant) → is_behind g.service g.cid h ≡ true → is_before s i h ≡ true → is_before s i g ≡ true
before_before s i g h behind before = grind (arith, nat_tests, behind, before)

pub behind_both : (s i : ℕ) (g h : Grant) → is_of s i g ≡ true → is_behind g.service g.cid h ≡ true → is_behind s i h ≡ true
behind_both s i g h of behind = grind (arith, nat_tests, of, behind)

pub behind_behind : (s i : ℕ) (g h : Grant) → is_behind s i g ≡ true → is_behind g.service g.cid h ≡ true → is_behind s i h ≡ true
behind_behind s i g h first then = grind (arith, nat_tests, first, then)

pub is_of-is : (s i : ℕ) (g : Grant) → is_of s i g ≡ true → (g.service ≡ s) × (g.cid ≡ i)
is_of-is s i g of = (grind (arith, nat_tests, of), grind (arith, nat_tests, of))

-- ---- lists ----

module _ {X : Type 0} where
  pub kept_all : (p : X → Bool) (xs : List X) → AllByRecursion (λ x. p x ≡ true) xs → filter p xs ≡ xs
  kept_all p [] all = refl
  kept_all p (x ∷ xs) all = rw (all.0) (ap (λ t. x ∷ t) (kept_all p xs all.1))

  pub kept_none : (p : X → Bool) (xs : List X) → AllByRecursion (λ x. p x ≡ false) xs → filter p xs ≡ []
  kept_none p [] all = refl
  kept_none p (x ∷ xs) all = rw (all.0) (kept_none p xs all.1)

pub bytes_filter : (p : Grant → Bool) (grants : List Grant) → AreBytes grants → AreBytes (filter p grants)
bytes_filter p grants bytes = all_filter (λ g. (g.service < 256) × (g.cid < 256)) p grants bytes

pub bytes_none : (grants : List Grant) → grants ≡ [] → AreBytes grants
bytes_none grants none = subst (λ (l : List Grant). AreBytes l) (sym none) tt

-- ---- there are no more ids than pairs of bytes ----

abbrev pub id_of : Grant → ℕ
id_of g = 256 * g.service + g.cid

next_id : (a b c d : ℕ) → b < 256 → (nat_lt a c || (a == c && nat_lt b d)) ≡ true → 256 * a + b + 1 ≤ 256 * c + d
next_id a b c d byte behind =
    let either : (x y : Bool) → nat_lt a c ≡ x → (a == c && nat_lt b d) ≡ y → (x || y) ≡ true → 256 * a + b + 1 ≤ 256 * c + d =
    λ x y. elim x as (λ x. nat_lt a c ≡ x → (a == c && nat_lt b d) ≡ y → (x || y) ≡ true → 256 * a + b + 1 ≤ 256 * c + d) [
      | true ↦ λ e f h. let less : a < c = grind (arith, nat_tests, e) in omega arith
      | false ↦ λ e f h. let same : a ≡ c = grind (arith, nat_tests, f, h) in let less : b < d = grind (arith, nat_tests, f, h) in omega arith
    ]
    in either (nat_lt a c) (a == c && nat_lt b d) refl refl behind

pub few_in_order : (low : ℕ) (grants : List Grant) → AreInOrder grants → AreBytes grants → low ≤ 65536 → AllByRecursion (λ g. low ≤ id_of g) grants → length grants + low ≤ 65536
unfolding IsInOrder
few_in_order low [] ordered bytes bound all = omega arith
few_in_order low (g ∷ grants) ordered bytes bound all =
    let service : g.service < 256 = bytes.0.0 in
    let cid : g.cid < 256 = bytes.0.1 in
    let from : low ≤ id_of g = all.0 in
    let rest : AllByRecursion (λ h. low + 1 ≤ id_of h) grants =
    all_weaker (λ h. is_behind g.service g.cid h ≡ true) (λ h. low + 1 ≤ id_of h) (λ h behind. let next : id_of g + 1 ≤ id_of h = next_id g.service g.cid h.service h.cid cid behind in omega arith) grants ordered.0
    in
    let few : length grants + (low + 1) ≤ 65536 = few_in_order (low + 1) grants ordered.1 bytes.1 (omega arith) rest in omega arith

any_id : (grants : List Grant) → AllByRecursion (λ g. 0 ≤ id_of g) grants
any_id [] = tt
any_id (g ∷ grants) = (omega arith, any_id grants)

pub few_ids : (grants : List Grant) → AreInOrder grants → AreBytes grants → length grants ≤ 65536
few_ids grants ordered bytes = omega (arith, few_in_order 0 grants ordered bytes (omega arith) (any_id grants))
