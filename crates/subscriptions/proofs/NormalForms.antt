-- What stands in a normal form, and what a pair more makes of one.
use Rattle.std.proofs.Common.{◌≡◌, ◌⊎◌, ℕ, zero, suc, ◌<◌, ◌≤◌, Bool, true, false, cond, not, ◌&&◌, ◌||◌, is_none, bytes_eq, List, [], ◌∷◌, length, filter, refl, ap, sym, ◌∙◌, inl, inr, ⊎_elim, subst, arith, Contains, Option, Some, None}
use Rattle.std.specs.declared.cmp.Ordering.TheVariants.{Less}
use Rattle.std.specs.List.{list_any}
use Rattle.std.proofs.lemmas.Bool.{and_parts, not-true, eqb-true}
use Rattle.std.proofs.lemmas.Bool.Decides.{nat_tests}
use Rattle.std.proofs.lemmas.Slice.Eq.{bytes_eq-Decides}
use Rattle.kit_bytes.specs.Subscriptions.{Pair, pair_cmp, pairs_with, ordered_pairs, has_all, is_beside_all, normal_form}
use Rattle.kit_bytes.proofs.Members.{Contains-cons, Contains-cons_cases, Contains-nil, Contains-filter, Contains-filter_from, Contains-filter_passes}
use Rattle.kit_bytes.proofs.Sorted.{in_order_filter}
use Rattle.subscriptions.specs.Lists.{AreInOrder, IsNormal, has_cid, covers}
use Rattle.subscriptions.proofs.Order.{with_cases, with_has, with_keeps, with_in_order, with_length, with_shorter, ordered_in_order, ordered_from, ordered_has, same_in_order}

-- ---- tests ----

module _ {X : Type 0} (p : X → Bool) where
  pub any_from : (xs : List X) (x : X) → Contains xs x → p x ≡ true → list_any p xs ≡ true
  any_from [] x at passes = absurd (Contains-nil x at)
  any_from (y ∷ xs) x at passes = by (p y) refl (⊎_elim (λ (is : y ≡ x). inl (ap p is ∙ passes)) (λ (rest : Contains xs x). inr (any_from xs x rest passes)) (Contains-cons_cases x y xs at))
    where
      by : (b : Bool) → p y ≡ b → (p y ≡ true) ⊎ (list_any p xs ≡ true) → (b || list_any p xs) ≡ true
      by true e either = refl
      by false e either = ⊎_elim (λ (here : p y ≡ true). let clash : true ≡ false = sym here ∙ e in absurd (cc)) (λ (there : list_any p xs ≡ true). there) either

  pub any_has : (xs : List X) → list_any p xs ≡ true → (x : X) × Contains xs x × (p x ≡ true)
  any_has [] e = absurd (cc)
  any_has (y ∷ xs) e = by (p y) refl e (any_has xs)
    where
      by : (b : Bool) → p y ≡ b → (b || list_any p xs) ≡ true → (list_any p xs ≡ true → (x : X) × Contains xs x × (p x ≡ true)) → (x : X) × Contains (y ∷ xs) x × (p x ≡ true)
      by true passes e others = (y, (zero, omega arith, refl), passes)
      by false fails e others = let there = others e in (there.0, Contains-cons there.0 y xs there.1, there.2)

-- the same answer, where each leads to the other
pub same_answer : (a b : Bool) → (a ≡ true → b ≡ true) → (b ≡ true → a ≡ true) → a ≡ b
same_answer true b to from = sym (to refl)
same_answer false true to from = from refl
same_answer false false to from = refl

pub answer_false : (b : Bool) → (b ≡ true → ⊥) → b ≡ false
answer_false true never = absurd (never refl)
answer_false false never = refl

pub both_true : (a b : Bool) → a ≡ true → b ≡ true → (a && b) ≡ true
both_true true b e f = f
both_true false b e f = absurd (cc)

pub bytes_same : (xs ys : List ℕ) → bytes_eq xs ys ≡ true → xs ≡ ys
bytes_same xs ys e = (bytes_eq-Decides xs ys).0 e

pub bytes_itself : (xs : List ℕ) → bytes_eq xs xs ≡ true
bytes_itself xs = (bytes_eq-Decides xs xs).1 refl

-- ---- all CIDs of a service ----

none_is : (cid : Option ℕ) → is_none cid ≡ true → cid ≡ None
none_is None e = refl
none_is (Some n) e = absurd (cc)

pub all_is : (q : Pair) → is_none q.1 ≡ true → q ≡ (q.0, None)
all_is q e = ap (λ (cid : Option ℕ). (q.0, cid)) (none_is q.1 e)

pub all_in : (ps : List Pair) (uuid : List ℕ) → has_all ps uuid ≡ true → Contains ps (uuid, None)
all_in ps uuid e =
    let some = any_has (λ p. bytes_eq p.0 uuid && is_none p.1) ps e in
    let parts = and_parts (bytes_eq some.0.0 uuid) (is_none some.0.1) some.2 in
    subst (λ (p : Pair). Contains ps p) (all_is some.0 parts.1 ∙ ap (λ (u : List ℕ). (u, None)) (bytes_same some.0.0 uuid parts.0)) some.1

pub in_all : (ps : List Pair) (uuid : List ℕ) → Contains ps (uuid, None) → has_all ps uuid ≡ true
in_all ps uuid at = any_from (λ p. bytes_eq p.0 uuid && is_none p.1) ps (uuid, None) at (both_true (bytes_eq uuid uuid) true (bytes_itself uuid) refl)

-- a pair that doesn't stand beside all CIDs of its service
abbrev pub IsFree : List Pair → Pair → Type 0
IsFree ps q = is_none q.1 ≡ false → Contains ps (q.0, None) → ⊥

pub free_is : (ps : List Pair) (q : Pair) → IsFree ps q → is_beside_all ps q ≡ false
free_is ps q free = answer_false (is_beside_all ps q) (λ e. let parts = and_parts (not (is_none q.1)) (has_all ps q.0) e in free (not-true (is_none q.1) parts.0) (all_in ps q.0 parts.1))

pub is_free : (ps : List Pair) (q : Pair) → is_beside_all ps q ≡ false → IsFree ps q
is_free ps q e single at =
    let beside : is_beside_all ps q ≡ true = both_true (not (is_none q.1)) (has_all ps q.0) (ap not single) (in_all ps q.0 at) in
    let clash : true ≡ false = sym beside ∙ e in absurd (cc)

-- ---- what stands in a normal form ----

module _ (ps : List Pair) where
  pub normal_in_order : AreInOrder (normal_form ps)
  normal_in_order = in_order_filter (λ pair other. pair_cmp pair other ≡ Less) (λ q. not (is_beside_all ps q)) (ordered_pairs ps) (ordered_in_order ps)

  pub normal_from : (q : Pair) → Contains (normal_form ps) q → Contains ps q
  normal_from q at = ordered_from ps q (Contains-filter_from (λ q. not (is_beside_all ps q)) (ordered_pairs ps) q at)

  pub normal_free : (q : Pair) → Contains (normal_form ps) q → IsFree ps q
  normal_free q at = is_free ps q (not-true (is_beside_all ps q) (Contains-filter_passes (λ q. not (is_beside_all ps q)) (ordered_pairs ps) q at))

  pub normal_has : (q : Pair) → Contains ps q → IsFree ps q → Contains (normal_form ps) q
  normal_has q at free = Contains-filter (λ q. not (is_beside_all ps q)) (ordered_pairs ps) q (ordered_has ps q at) (ap not (free_is ps q free))

  -- a list in order that has just these pairs is the normal form
  pub is_normal_form : (xs : List Pair) → AreInOrder xs → ((q : Pair) → Contains xs q → Contains ps q) → ((q : Pair) → Contains xs q → IsFree ps q) → ((q : Pair) → Contains ps q → IsFree ps q → Contains xs q) → normal_form ps ≡ xs
  is_normal_form xs ordered from free has =
      sym (same_in_order xs (normal_form ps) ordered normal_in_order (λ q at. normal_has q (from q at) (free q at)) (λ q at. has q (normal_from q at) (normal_free q at)))

-- of a list in normal form
pub form_in_order : (list : List Pair) → IsNormal list → AreInOrder list
form_in_order list normal = subst AreInOrder normal (normal_in_order list)

pub form_free : (list : List Pair) (q : Pair) → IsNormal list → Contains list q → IsFree list q
form_free list q normal at = normal_free list q (subst (λ (l : List Pair). Contains l q) (sym normal) at)

-- a normal form is in normal form
pub normal_again : (ps : List Pair) → IsNormal (normal_form ps)
normal_again ps =
    is_normal_form (normal_form ps) (normal_form ps) (normal_in_order ps) (λ q at. at) (λ q at single all. normal_free ps q at single (normal_from ps (q.0, None) all)) (λ q at free. at)

-- ---- a pair that covers another ----

pub covers_cases : (p q : Pair) → covers p q ≡ true → (p ≡ q) ⊎ (p ≡ (q.0, None))
covers_cases p q e =
    let parts = and_parts (bytes_eq p.0 q.0) (has_cid p.1 q.1) e in
    by p.1 q.1 refl refl (bytes_same p.0 q.0 parts.0) parts.1
  where
    by : (a b : Option ℕ) → p.1 ≡ a → q.1 ≡ b → p.0 ≡ q.0 → has_cid a b ≡ true → (p ≡ q) ⊎ (p ≡ (q.0, None))
    by None b is_a is_b same e = inr (λ i. (same i, is_a i))
    by (Some n) None is_a is_b same e = absurd (cc)
    by (Some n) (Some k) is_a is_b same e = let number : n ≡ k = eqb-true n k e in let cid : p.1 ≡ q.1 = is_a ∙ ap Some number ∙ sym is_b in inl (λ i. (same i, cid i))

cid_itself : (cid : Option ℕ) → has_cid cid cid ≡ true
cid_itself None = refl
cid_itself (Some n) = grind (arith, nat_tests)

pub covers_itself : (p : Pair) → covers p p ≡ true
covers_itself p = both_true (bytes_eq p.0 p.0) (has_cid p.1 p.1) (bytes_itself p.0) (cid_itself p.1)

pub covers_same : (p q : Pair) → p ≡ q → covers p q ≡ true
covers_same p q is = subst (λ (r : Pair). covers p r ≡ true) is (covers_itself p)

pub all_covers : (uuid : List ℕ) (q : Pair) → uuid ≡ q.0 → covers (uuid, None) q ≡ true
all_covers uuid q same = both_true (bytes_eq uuid q.0) true ((bytes_eq-Decides uuid q.0).1 same) refl

-- ---- a pair more ----

module _ (list : List Pair) (p : Pair) (normal : IsNormal list) where
  -- it is there, or all CIDs of its service are
  pub push_covered : list_any (λ q. covers q p) list ≡ true → normal_form (p ∷ list) ≡ list
  push_covered e = is_normal_form (p ∷ list) list (form_in_order list normal) (λ q at. Contains-cons q p list at) free has
    where
      some : (q : Pair) × Contains list q × (covers q p ≡ true)
      some = any_has (λ q. covers q p) list e

      -- all CIDs of a service come from the list itself
      all_from : (uuid : List ℕ) → Contains (p ∷ list) (uuid, None) → Contains list (uuid, None)
      all_from uuid at =
          ⊎_elim
          (λ (is : p ≡ (uuid, None)).
          ⊎_elim
          (λ (same : some.0 ≡ p). subst (λ (r : Pair). Contains list r) (same ∙ is) some.1)
          (λ (all : some.0 ≡ (p.0, None)). subst (λ (r : Pair). Contains list r) (all ∙ ap (λ (r : Pair). (r.0, None)) is) some.1)
          (covers_cases some.0 p some.2))
          (λ (rest : Contains list (uuid, None)). rest)
          (Contains-cons_cases (uuid, None) p list at)

      free : (q : Pair) → Contains list q → IsFree (p ∷ list) q
      free q at single all = form_free list q normal at single (all_from q.0 all)

      has : (q : Pair) → Contains (p ∷ list) q → IsFree (p ∷ list) q → Contains list q
      has q at alone =
          ⊎_elim
          (λ (is : p ≡ q).
          ⊎_elim
          (λ (same : some.0 ≡ p). subst (λ (r : Pair). Contains list r) (same ∙ is) some.1)
          (λ (all : some.0 ≡ (p.0, None)). by (is_none q.1) refl is (subst (λ (r : Pair). Contains list r) (all ∙ ap (λ (r : Pair). (r.0, None)) is) some.1))
          (covers_cases some.0 p some.2))
          (λ (rest : Contains list q). rest)
          (Contains-cons_cases q p list at)
        where
          by : (b : Bool) → is_none q.1 ≡ b → p ≡ q → Contains list (q.0, None) → Contains list q
          by true all is at_all = subst (λ (r : Pair). Contains list r) (sym (all_is q all)) at_all
          by false single is at_all = absurd (alone single (Contains-cons (q.0, None) p list at_all))

  -- it is new: what it covers goes
  pub push_new : list_any (λ q. covers q p) list ≡ false → normal_form (p ∷ list) ≡ pairs_with p (filter (λ q. not (covers p q)) list)
  push_new e = is_normal_form (p ∷ list) (pairs_with p kept) ordered from free has
    where
      kept : List Pair
      kept = filter (λ q. not (covers p q)) list

      ordered : AreInOrder (pairs_with p kept)
      ordered = with_in_order p kept (in_order_filter (λ pair other. pair_cmp pair other ≡ Less) (λ q. not (covers p q)) list (form_in_order list normal))

      old : (q : Pair) → Contains kept q → Contains list q
      old q at = Contains-filter_from (λ q. not (covers p q)) list q at

      from : (q : Pair) → Contains (pairs_with p kept) q → Contains (p ∷ list) q
      from q at = ⊎_elim (λ (is : p ≡ q). (zero, omega arith, is)) (λ (rest : Contains kept q). Contains-cons q p list (old q rest)) (with_cases p kept q at)

      uncovered : (q : Pair) → Contains list q → covers q p ≡ true → ⊥
      uncovered q at covered = let clash : true ≡ false = sym (any_from (λ q. covers q p) list q at covered) ∙ e in absurd (cc)

      kept_apart : (q : Pair) → Contains kept q → covers p q ≡ true → ⊥
      kept_apart q at covered = let clash : true ≡ false = sym covered ∙ not-true (covers p q) (Contains-filter_passes (λ q. not (covers p q)) list q at) in absurd (cc)

      free : (q : Pair) → Contains (pairs_with p kept) q → IsFree (p ∷ list) q
      free q at single all =
          ⊎_elim
          (λ (is : p ≡ q).
          ⊎_elim
          (λ (itself : p ≡ (q.0, None)). let clash : true ≡ false = sym (ap (λ (r : Pair). is_none r.1) itself) ∙ ap (λ (r : Pair). is_none r.1) is ∙ single in absurd (cc))
          (λ (there : Contains list (q.0, None)). uncovered (q.0, None) there (all_covers q.0 p (ap (λ (r : Pair). r.0) (sym is))))
          (Contains-cons_cases (q.0, None) p list all))
          (λ (rest : Contains kept q).
          ⊎_elim
          (λ (itself : p ≡ (q.0, None)). kept_apart q rest (subst (λ (r : Pair). covers r q ≡ true) (sym itself) (all_covers q.0 q refl)))
          (λ (there : Contains list (q.0, None)). form_free list q normal (old q rest) single there)
          (Contains-cons_cases (q.0, None) p list all))
          (with_cases p kept q at)

      has : (q : Pair) → Contains (p ∷ list) q → IsFree (p ∷ list) q → Contains (pairs_with p kept) q
      has q at alone =
          ⊎_elim
          (λ (is : p ≡ q). subst (λ (r : Pair). Contains (pairs_with p kept) r) is (with_has p kept))
          (λ (rest : Contains list q). by (covers p q) refl rest)
          (Contains-cons_cases q p list at)
        where
          -- what it covers is the pair itself, or a single CID beside all
          covered : covers p q ≡ true → p ≡ q
          covered e = ⊎_elim (λ (is : p ≡ q). is) (λ (all : p ≡ (q.0, None)). single_or (is_none q.1) refl all) (covers_cases p q e)
            where
              single_or : (b : Bool) → is_none q.1 ≡ b → p ≡ (q.0, None) → p ≡ q
              single_or true whole all = all ∙ sym (all_is q whole)
              single_or false single all = absurd (alone single (zero, omega arith, all))

          by : (b : Bool) → covers p q ≡ b → Contains list q → Contains (pairs_with p kept) q
          by true e rest = subst (λ (r : Pair). Contains (pairs_with p kept) r) (covered e) (with_has p kept)
          by false e rest = with_keeps p kept q (Contains-filter (λ q. not (covers p q)) list q rest (ap not e))

  pub kept_in_order : AreInOrder (filter (λ q. not (covers p q)) list)
  kept_in_order = in_order_filter (λ pair other. pair_cmp pair other ≡ Less) (λ q. not (covers p q)) list (form_in_order list normal)

  pub kept_absent : Contains (filter (λ q. not (covers p q)) list) p → ⊥
  kept_absent at = let clash : true ≡ false = sym (covers_itself p) ∙ not-true (covers p p) (Contains-filter_passes (λ q. not (covers p q)) list p at) in absurd (cc)

  pub push_length : list_any (λ q. covers q p) list ≡ false → length (normal_form (p ∷ list)) ≡ suc (length (filter (λ q. not (covers p q)) list))
  push_length e = ap (λ (l : List Pair). length l) (push_new e) ∙ with_length p (filter (λ q. not (covers p q)) list) kept_absent

-- ---- what a filter leaves ----

pub filter_all : {X : Type 0} (p : X → Bool) (xs : List X) → list_any p xs ≡ false → filter (λ x. not (p x)) xs ≡ xs
filter_all p [] e = refl
filter_all {X} p (x ∷ xs) e = by (p x) (λ none. filter_all p xs none) e
  where
    by : (b : Bool) → (list_any p xs ≡ false → filter (λ y. not (p y)) xs ≡ xs) → (b || list_any p xs) ≡ false → cond (not b) (x ∷ filter (λ y. not (p y)) xs) (filter (λ y. not (p y)) xs) ≡ x ∷ xs
    by true others e = absurd (cc)
    by false others e = ap (λ (l : List X). x ∷ l) (others e)

pub filter_shorter : {X : Type 0} (p : X → Bool) (xs : List X) → length (filter p xs) ≤ length xs
filter_shorter p [] = omega arith
filter_shorter p (x ∷ xs) = by (p x) (filter_shorter p xs)
  where
    by : (b : Bool) → length (filter p xs) ≤ length xs → length (cond b (x ∷ filter p xs) (filter p xs)) ≤ suc (length xs)
    by true shorter = omega (arith, shorter)
    by false shorter = omega (arith, shorter)

pub filter_less : {X : Type 0} (p : X → Bool) (xs : List X) → list_any p xs ≡ true → length (filter (λ x. not (p x)) xs) < length xs
filter_less p [] e = absurd (cc)
filter_less p (x ∷ xs) e = by (p x) (λ some. filter_less p xs some) e
  where
    by : (b : Bool) → (list_any p xs ≡ true → length (filter (λ y. not (p y)) xs) < length xs) → (b || list_any p xs) ≡ true → length (cond (not b) (x ∷ filter (λ y. not (p y)) xs) (filter (λ y. not (p y)) xs)) < suc (length xs)
    by true others e = let shorter = filter_shorter (λ y. not (p y)) xs in omega (arith, shorter)
    by false others e = let less = others e in omega (arith, less)

-- ---- how long a normal form is ----

ordered_shorter : (ps : List Pair) → length (ordered_pairs ps) ≤ length ps
ordered_shorter [] = omega arith
ordered_shorter (p ∷ ps) = let shorter = ordered_shorter ps in let one = with_shorter p (ordered_pairs ps) in omega (arith, shorter, one)

pub normal_shorter : (ps : List Pair) → length (normal_form ps) ≤ length ps
normal_shorter ps = let kept = filter_shorter (λ q. not (is_beside_all ps q)) (ordered_pairs ps) in let shorter = ordered_shorter ps in omega (arith, kept, shorter)
