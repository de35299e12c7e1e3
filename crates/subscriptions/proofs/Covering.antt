-- Lists that cover each other have one normal form, and a normal form that is part of another is no longer.
use Rattle.std.proofs.Common.{◌≡◌, ℕ, ◌≤◌, Bool, true, false, not, is_none, List, [], ◌∷◌, ◌++◌, length, sym, ◌∙◌, ⊎_elim, subst, refl, arith, Contains, None}
use Rattle.std.specs.declared.cmp.Ordering.TheVariants.{Less}
use Rattle.std.proofs.lemmas.Bool.{and_parts}
use Rattle.std.proofs.lemmas.List.Elements.{Contains-append_left, Contains-append_right, Contains-append_cases}
use Rattle.kit_bytes.specs.Sorted.{IsInOrder}
use Rattle.kit_bytes.specs.Subscriptions.{Pair, pair_cmp, has_all, is_beside_all, normal_form}
use Rattle.kit_bytes.proofs.Members.{Contains-cons_cases, Contains-nil}
use Rattle.subscriptions.specs.Lists.{AreInOrder, covers}
use Rattle.subscriptions.proofs.Order.{not_before_itself, before_behind, one_of, first_of, same_rest}
use Rattle.subscriptions.proofs.NormalForms.{IsFree, all_is, all_in, is_free, normal_in_order, normal_from, normal_free, normal_has, is_normal_form, covers_cases, covers_itself, all_covers}

-- each pair is, or stands for a CID of, a pair of the other list
abbrev pub AreCovered : List Pair → List Pair → Type 0
AreCovered xs ys = (q : Pair) → Contains xs q → (r : Pair) × Contains ys r × (covers r q ≡ true)

module _ (xs ys : List Pair) (covered : AreCovered xs ys) where
  all_moves : (uuid : List ℕ) → Contains xs (uuid, None) → Contains ys (uuid, None)
  all_moves uuid at =
      let some : (r : Pair) × Contains ys r × (covers r (uuid, None) ≡ true) = covered (uuid, None) at in
      subst (λ (r : Pair). Contains ys r) (⊎_elim (λ (same : some.0 ≡ (uuid, None)). same) (λ (all : some.0 ≡ (uuid, None)). all) (covers_cases some.0 (uuid, None) some.2)) some.1

  free_moves : (q : Pair) → Contains xs q → IsFree ys q → Contains ys q
  free_moves q at free =
      let some : (r : Pair) × Contains ys r × (covers r q ≡ true) = covered q at in
      ⊎_elim
      (λ (same : some.0 ≡ q). subst (λ (r : Pair). Contains ys r) same some.1)
      (λ (all : some.0 ≡ (q.0, None)). by (is_none q.1) refl (subst (λ (r : Pair). Contains ys r) all some.1))
      (covers_cases some.0 q some.2)
    where
      by : (b : Bool) → is_none q.1 ≡ b → Contains ys (q.0, None) → Contains ys q
      by true all there = subst (λ (r : Pair). Contains ys r) (sym (all_is q all)) there
      by false single there = absurd (free single there)

pub same_form : (xs ys : List Pair) → AreCovered xs ys → AreCovered ys xs → normal_form xs ≡ normal_form ys
same_form xs ys to from = is_normal_form xs (normal_form ys) (normal_in_order ys) (λ q at. free_moves ys xs from q (normal_from ys q at) (free q at)) free has
  where
    free : (q : Pair) → Contains (normal_form ys) q → IsFree xs q
    free q at single all = normal_free ys q at single (all_moves xs ys to q.0 all)

    has : (q : Pair) → Contains xs q → IsFree xs q → Contains (normal_form ys) q
    has q at alone =
        let free_there : IsFree ys q = λ single all. alone single (all_moves ys xs from q.0 all) in
        normal_has ys q (free_moves xs ys to q at free_there) free_there

-- ---- what covers what ----

pub covered_within : (xs ys : List Pair) → ((q : Pair) → Contains xs q → Contains ys q) → AreCovered xs ys
covered_within xs ys within q at = (q, within q at, covers_itself q)

pub form_covers : (xs : List Pair) → AreCovered xs (normal_form xs)
form_covers xs q at = by (is_beside_all xs q) refl
  where
    by : (b : Bool) → is_beside_all xs q ≡ b → (r : Pair) × Contains (normal_form xs) r × (covers r q ≡ true)
    by false alone = (q, normal_has xs q at (is_free xs q alone), covers_itself q)
    by true beside =
        let parts = and_parts (not (is_none q.1)) (has_all xs q.0) beside in
        ((q.0, None), normal_has xs (q.0, None) (all_in xs q.0 parts.1) (λ single all. let clash : true ≡ false = single in absurd (cc)), all_covers q.0 q refl)

-- a normal form serves in the place of its list
pub form_joined : (xs ys : List Pair) → normal_form (normal_form xs ++ ys) ≡ normal_form (xs ++ ys)
form_joined xs ys = same_form (normal_form xs ++ ys) (xs ++ ys) to from
  where
    to : AreCovered (normal_form xs ++ ys) (xs ++ ys)
    to q at =
        ⊎_elim
        (λ (front : Contains (normal_form xs) q). (q, Contains-append_left xs ys q (normal_from xs q front), covers_itself q))
        (λ (behind : Contains ys q). (q, Contains-append_right xs ys q behind, covers_itself q))
        (Contains-append_cases (normal_form xs) ys q at)

    from : AreCovered (xs ++ ys) (normal_form xs ++ ys)
    from q at =
        ⊎_elim
        (λ (front : Contains xs q). let some = form_covers xs q front in (some.0, Contains-append_left (normal_form xs) ys some.0 some.1, some.2))
        (λ (behind : Contains ys q). (q, Contains-append_right (normal_form xs) ys q behind, covers_itself q))
        (Contains-append_cases xs ys q at)

pub form_swapped : (xs ys : List Pair) → normal_form (xs ++ ys) ≡ normal_form (ys ++ xs)
form_swapped xs ys = same_form (xs ++ ys) (ys ++ xs) (covered_within (xs ++ ys) (ys ++ xs) (swapped xs ys)) (covered_within (ys ++ xs) (xs ++ ys) (swapped ys xs))
  where
    swapped : (xs ys : List Pair) (q : Pair) → Contains (xs ++ ys) q → Contains (ys ++ xs) q
    swapped xs ys q at =
        ⊎_elim
        (λ (front : Contains xs q). Contains-append_right ys xs q front)
        (λ (behind : Contains ys q). Contains-append_left ys xs q behind)
        (Contains-append_cases xs ys q at)

pub form_pushed : (pairs pushed : List Pair) → normal_form (pushed ++ normal_form pairs) ≡ normal_form (pushed ++ pairs)
form_pushed pairs pushed = form_swapped pushed (normal_form pairs) ∙ form_joined pairs pushed ∙ form_swapped pairs pushed

-- ---- how long lists in order are ----

shorter_within : (xs ys : List Pair) → AreInOrder xs → AreInOrder ys → ((q : Pair) → Contains xs q → Contains ys q) → length xs ≤ length ys
unfolding IsInOrder
shorter_within [] ys one other within = omega arith
shorter_within (x ∷ xs) [] one other within = absurd (Contains-nil x (within x (first_of x xs)))
shorter_within (x ∷ xs) (y ∷ ys) one other within =
    ⊎_elim
    (λ (is : y ≡ x). let rest : length xs ≤ length ys = shorter_within xs ys one.1 other.1 (same_rest x y xs ys (sym is) one.0 within) in omega (arith, rest))
    (λ (behind : Contains ys x). let rest : length (x ∷ xs) ≤ length ys = shorter_within (x ∷ xs) ys one other.1 (past behind) in omega (arith, rest))
    (Contains-cons_cases x y ys (within x (first_of x xs)))
  where
    not_first : Contains ys x → (q : Pair) → y ≡ q → Contains (x ∷ xs) q → ⊥
    not_first behind q is at =
        let before : pair_cmp y x ≡ Less = one_of (λ z. pair_cmp y z ≡ Less) ys x other.0 behind in
        ⊎_elim
        (λ (same : x ≡ q). not_before_itself x (subst (λ (z : Pair). pair_cmp z x ≡ Less) (is ∙ sym same) before))
        (λ (later : Contains xs q). before_behind x y (subst (λ (z : Pair). pair_cmp x z ≡ Less) (sym is) (one_of (λ z. pair_cmp x z ≡ Less) xs q one.0 later)) before)
        (Contains-cons_cases q x xs at)

    past : Contains ys x → (q : Pair) → Contains (x ∷ xs) q → Contains ys q
    past behind q at = ⊎_elim (λ (is : y ≡ q). absurd (not_first behind q is at)) (λ (there : Contains ys q). there) (Contains-cons_cases q y ys (within q at))

pub form_shorter : (xs ys : List Pair) → ((q : Pair) → Contains (normal_form xs) q → Contains (normal_form ys) q) → length (normal_form xs) ≤ length (normal_form ys)
form_shorter xs ys within = shorter_within (normal_form xs) (normal_form ys) (normal_in_order xs) (normal_in_order ys) within
