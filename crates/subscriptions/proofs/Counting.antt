-- What a pair more or less makes of counts, and the normal form of what was counted.
use Rattle.std.proofs.Common.{◌≡◌, ℕ, zero, suc, ◌+◌, ◌<◌, ◌≤◌, Bool, true, false, cond, ◌-◌, nat_lt, List, [], ◌∷◌, ◌++◌, length, take, drop, get_or, set, refl, ap, sym, ◌∙◌, subst, arith, ⊎_elim, Contains}
use Rattle.std.specs.declared.cmp.Ordering.{Ordering}
use Rattle.std.specs.declared.cmp.Ordering.TheVariants.{Less, Equal, Greater}
use Rattle.std.specs.List.{AllByRecursion, AllWithin, dedup, remove, sum_by}
use Rattle.std.specs.List.Sorted.{IsPartitionedBy}
use Rattle.std.specs.Ordering.{is_eq, is_lt}
use Rattle.std.proofs.lemmas.Bool.Decides.{nat_tests}
use Rattle.std.proofs.lemmas.Cmp.{tied_itself}
use Rattle.std.proofs.lemmas.List.{get_or_default}
use Rattle.std.proofs.lemmas.List.Sums.{sum_by-cons, sum_by-set, sum_by-remove, sum_by-insert, sum_by-take-le, sum_by_more, get_or-le-sum_by}
use Rattle.kit_bytes.specs.Sorted.{IsInOrder}
use Rattle.kit_bytes.specs.Subscriptions.{Pair, pair_cmp, normal_form}
use Rattle.kit_bytes.proofs.Lists.{all_at, all_insert, all_remove, all_set}
use Rattle.kit_bytes.proofs.Members.{Contains-cons, Contains-cons_cases}
use Rattle.kit_bytes.proofs.Pairs.{exact_pair, pair_cmp_total}
use Rattle.kit_bytes.proofs.Sorted.{in_order_at, in_order_insert, in_order_map, in_order_remove, in_order_set, partitioned}
use Rattle.subscriptions.specs.declared.counts.Counted.{Counted}
use Rattle.subscriptions.specs.Counts.{AreCounts, AreCountsOf, IsPlaceOf, StandsAt, count_of, is_same, once, pairs_in, times_in, total}
use Rattle.subscriptions.specs.Lists.{AreInOrder, covers}
use Rattle.subscriptions.proofs.Order.{greater_less, less_is, not_before_itself}
use Rattle.subscriptions.proofs.Sorting.{ordered_form, same_form}

-- ---- one pair ----

pub same_is : (p q : Pair) → is_same p q ≡ true → p ≡ q
same_is p q e = by (pair_cmp p q) refl e
  where
    by : (r : Ordering) → pair_cmp p q ≡ r → is_eq r ≡ true → p ≡ q
    by Less is e = absurd (cc)
    by Equal is e = exact_pair p q is
    by Greater is e = absurd (cc)

same_itself : (p : Pair) → is_same p p ≡ true
same_itself p = ap is_eq (tied_itself pair_cmp_total p)

-- ---- where a pair stands ----

abbrev Ahead : Counted → Counted → Type 0
Ahead counted other = pair_cmp counted.pair other.pair ≡ Less

pub halved : (p : Pair) (counts : List Counted) → AreCounts counts → IsPartitionedBy (λ c. is_lt (pair_cmp c.pair p)) counts
halved p counts right = partitioned Ahead (λ c. is_lt (pair_cmp c.pair p)) (λ x y ahead before. ap is_lt (pair_cmp_total.trans x.pair y.pair p ahead (less_is (pair_cmp y.pair p) before))) counts right.ordered

module _ (p : Pair) (counts : List Counted) (place : ℕ) (right : AreCounts counts) (is_place : IsPlaceOf p counts place) where
  -- it stands at no other place
  pub stands_there : (k : ℕ) (d : Counted) → k < length counts → is_same p (get_or counts k d).pair ≡ true → StandsAt p counts place
  stands_there k d within same = by (nat_lt k place) refl (nat_lt place k) refl
    where
      is : p ≡ (get_or counts k d).pair
      is = same_is p (get_or counts k d).pair same

      by : (b : Bool) → nat_lt k place ≡ b → (c : Bool) → nat_lt place k ≡ c → StandsAt p counts place
      by true low c past =
          let before : pair_cmp (get_or counts k d).pair p ≡ Less = less_is (pair_cmp (get_or counts k d).pair p) (is_place.before k d (omega arith) (grind (arith, nat_tests, low))) in
          absurd (not_before_itself p (subst (λ (q : Pair). pair_cmp q p ≡ Less) (sym is) before))
      by false low true past =
          let less : place < k = grind (arith, nat_tests, past) in
          let ahead : pair_cmp (get_or counts place d).pair (get_or counts k d).pair ≡ Less = in_order_at Ahead counts place k d right.ordered less within in
          let before : is_lt (pair_cmp (get_or counts place d).pair p) ≡ true = ap is_lt (subst (λ (q : Pair). pair_cmp (get_or counts place d).pair q ≡ Less) (sym is) ahead) in
          let clash : true ≡ false = sym before ∙ is_place.behind place d (omega arith) (omega (arith, less, within)) in
          absurd (cc)
      by false low false past =
          let here : k ≡ place = grind (arith, nat_tests, low, past) in
          record { within = omega (arith, here, within); same = λ e. subst (λ (n : ℕ). is_same p (get_or counts n e).pair ≡ true) here (subst (λ (c : Counted). is_same p c.pair ≡ true) (get_or_default counts k d e within) same) }

  -- all from its place on stand behind it, where it isn't there
  pub stands_past : (StandsAt p counts place → ⊥) → AllWithin (λ c. pair_cmp p c.pair ≡ Less) counts place (length counts)
  stands_past other k d low high = by (pair_cmp p (get_or counts k d).pair) refl
    where
      by : (r : Ordering) → pair_cmp p (get_or counts k d).pair ≡ r → pair_cmp p (get_or counts k d).pair ≡ Less
      by Less e = e
      by Equal e = absurd (other (stands_there k d high (ap is_eq e)))
      by Greater e = let clash : true ≡ false = sym (ap is_lt (greater_less p (get_or counts k d).pair e)) ∙ is_place.behind k d low high in absurd (cc)

-- ---- sums ----

some_of : {X : Type 0} (f : X → ℕ) (xs : List X) → 0 < sum_by f xs → (x : X) × Contains xs x × (0 < f x)
some_of f [] some = absurd (omega (arith, some))
some_of {X} f (x ∷ xs) some = by (nat_lt 0 (f x)) refl (some_of f xs)
  where
    by : (b : Bool) → nat_lt 0 (f x) ≡ b → (0 < sum_by f xs → (y : X) × Contains xs y × (0 < f y)) → (y : X) × Contains (x ∷ xs) y × (0 < f y)
    by true e others = (x, (zero, omega arith, refl), grind (arith, nat_tests, e))
    by false e others =
        let none : f x ≡ 0 = grind (arith, nat_tests, e) in
        let rest = others (omega (arith, some, none, sum_by-cons f x xs)) in
        (rest.0, Contains-cons rest.0 x xs rest.1, rest.2)

of_some : {X : Type 0} (f : X → ℕ) (xs : List X) (x : X) → Contains xs x → 0 < f x → 0 < sum_by f xs
of_some f xs x at some = let least = get_or-le-sum_by f xs at.0 x at.1 in let is = ap f at.2 in omega (arith, some, least, is)

if_some : (b : Bool) (n : ℕ) → 0 < cond b n 0 → b ≡ true
if_some true n some = refl
if_some false n some = absurd (omega (arith, some))

-- what was counted stands at its place
pub counted_stands : (p : Pair) (counts : List Counted) (place : ℕ) → AreCounts counts → IsPlaceOf p counts place → 0 < count_of p counts → StandsAt p counts place
counted_stands p counts place right is_place some =
    let one = some_of (λ c. cond (is_same p c.pair) c.times 0) counts some in
    stands_there p counts place right is_place one.1.0 one.0 one.1.1 (ap (λ (c : Counted). is_same p c.pair) one.1.2 ∙ if_some (is_same p one.0.pair) one.0.times one.2)

pub stands_in : {seen counts : List Counted} (p : Pair) (place : ℕ) → seen ≡ counts → AreCounts counts → IsPlaceOf p seen place → 0 < count_of p counts → StandsAt p counts place
stands_in {seen} {counts} p place same right is_place some = counted_stands p counts place right (subst (λ (l : List Counted). IsPlaceOf p l place) same is_place) some

-- ---- a count is changed ----

pub none_right : AreCounts []
unfolding IsInOrder
none_right = record { ordered = tt; positive = tt }

less_positive : (n : ℕ) → 0 < n → (n ≡ 1 → ⊥) → 0 < n - 1
less_positive zero positive other = absurd (omega (arith, positive))
less_positive (suc zero) positive other = absurd (other refl)
less_positive (suc (suc n)) positive other = omega arith

module _ (counts : List Counted) (place : ℕ) (was : Counted) (right : AreCounts counts) (within : place < length counts) (is : was ≡ get_or counts place was) where
  pub was_positive : 0 < was.times
  was_positive = subst (λ (c : Counted). 0 < c.times) (sym is) (all_at (λ c. 0 < c.times) counts place was right.positive within)

  pub left_positive : (seen : Counted) → seen ≡ get_or counts place seen → (seen.times ≡ 1 → ⊥) → 0 < was.times - 1
  left_positive seen seen_is other =
      let same : seen.times ≡ was.times = ap (λ (c : Counted). c.times) (seen_is ∙ get_or_default counts place seen was within ∙ sym is) in
      less_positive was.times was_positive (λ one. other (same ∙ one))

  pub set_right : (times : ℕ) → 0 < times → AreCounts (set counts place (record { pair = was.pair; times = times }))
  set_right times positive = record {
    ordered =
        in_order_set Ahead counts place (record { pair = was.pair; times = times }) was
        (λ y ahead. subst (λ (c : Counted). pair_cmp c.pair y.pair ≡ Less) (sym is) ahead)
        (λ y ahead. subst (λ (c : Counted). pair_cmp y.pair c.pair ≡ Less) (sym is) ahead) right.ordered;
    positive = all_set (λ c. 0 < c.times) counts place (record { pair = was.pair; times = times }) was (λ old. positive) right.positive;
  }

  pub set_total : (times : ℕ) → total (set counts place (record { pair = was.pair; times = times })) + was.times ≡ total counts + times
  set_total times =
      ap (λ (c : Counted). total (set counts place (record { pair = was.pair; times = times })) + c.times) is ∙ sum_by-set (λ (c : Counted). c.times) counts place (record { pair = was.pair; times = times }) was within

  module _ (p : Pair) (stands : StandsAt p counts place) (other : Pair) where
    pub was_pair : was.pair ≡ p
    was_pair = sym (same_is p was.pair (subst (λ (c : Counted). is_same p c.pair ≡ true) (sym is) (stands.same was)))

    set_count : (times : ℕ) → count_of other (set counts place (record { pair = was.pair; times = times })) + cond (is_same other p) was.times 0 ≡ count_of other counts + cond (is_same other p) times 0
    set_count times =
        subst (λ (q : Pair). count_of other (set counts place (record { pair = was.pair; times = times })) + cond (is_same other q) was.times 0 ≡ count_of other counts + cond (is_same other q) times 0) was_pair
        (ap (λ (c : Counted). count_of other (set counts place (record { pair = was.pair; times = times })) + cond (is_same other c.pair) c.times 0) is
        ∙ sum_by-set (λ c. cond (is_same other c.pair) c.times 0) counts place (record { pair = was.pair; times = times }) was within)

    pub raised : count_of other (set counts place (record { pair = was.pair; times = was.times + 1 })) ≡ count_of other counts + once other p
    raised = by (is_same other p) (set_count (was.times + 1))
      where
        by : (b : Bool) → count_of other (set counts place (record { pair = was.pair; times = was.times + 1 })) + cond b was.times 0 ≡ count_of other counts + cond b (was.times + 1) 0
            → count_of other (set counts place (record { pair = was.pair; times = was.times + 1 })) ≡ count_of other counts + cond b 1 0
        by true e = omega (arith, e)
        by false e = omega (arith, e)

    pub lowered : count_of other (set counts place (record { pair = was.pair; times = was.times - 1 })) + once other p ≡ count_of other counts
    lowered = by (is_same other p) (set_count (was.times - 1))
      where
        by : (b : Bool) → count_of other (set counts place (record { pair = was.pair; times = was.times - 1 })) + cond b was.times 0 ≡ count_of other counts + cond b (was.times - 1) 0
            → count_of other (set counts place (record { pair = was.pair; times = was.times - 1 })) + cond b 1 0 ≡ count_of other counts
        by true e = omega (arith, e, was_positive)
        by false e = omega (arith, e)

    pub removed : was.times ≡ 1 → count_of other (remove counts place) + once other p ≡ count_of other counts
    removed one =
        subst (λ (n : ℕ). count_of other (remove counts place) + cond (is_same other p) n 0 ≡ count_of other counts) one
        (subst (λ (q : Pair). count_of other (remove counts place) + cond (is_same other q) was.times 0 ≡ count_of other counts) was_pair
        (ap (λ (c : Counted). count_of other (remove counts place) + cond (is_same other c.pair) c.times 0) is ∙ sum_by-remove (λ c. cond (is_same other c.pair) c.times 0) counts place was within))

pub remove_right : (counts : List Counted) (place : ℕ) → AreCounts counts → AreCounts (remove counts place)
remove_right counts place right = record { ordered = in_order_remove Ahead counts place right.ordered; positive = all_remove (λ c. 0 < c.times) counts place right.positive }

pub insert_right : (p : Pair) (counts : List Counted) (place : ℕ) → AreCounts counts → IsPlaceOf p counts place → (StandsAt p counts place → ⊥) → AreCounts (take place counts ++ record { pair = p; times = 1 } ∷ drop place counts)
insert_right p counts place right is_place other = record {
  ordered = in_order_insert Ahead counts place (record { pair = p; times = 1 }) (λ k d low high. less_is (pair_cmp (get_or counts k d).pair p) (is_place.before k d low high)) (stands_past p counts place right is_place other) right.ordered;
  positive = all_insert (λ c. 0 < c.times) counts place (record { pair = p; times = 1 }) right.positive (omega arith);
}

module _ (p : Pair) (counts : List Counted) (place : ℕ) where
  pub insert_count : (other : Pair) → count_of other (take place counts ++ record { pair = p; times = 1 } ∷ drop place counts) ≡ count_of other counts + once other p
  insert_count other = sum_by-insert (λ c. cond (is_same other c.pair) c.times 0) counts place (record { pair = p; times = 1 })

  pub insert_total : total (take place counts ++ record { pair = p; times = 1 } ∷ drop place counts) ≡ total counts + 1
  insert_total = sum_by-insert (λ (c : Counted). c.times) counts place (record { pair = p; times = 1 })

-- ---- the normal form of what was counted ----

pub pairs_few : (counts : List Counted) → AllByRecursion (λ c. 0 < c.times) counts → length counts ≤ total counts
pairs_few [] positive = omega arith
pairs_few (c ∷ counts) positive = let others = pairs_few counts positive.1 in omega (arith, positive.0, others, sum_by-cons (λ (c : Counted). c.times) c counts)

pub counts_in_order : (counts : List Counted) → AreCounts counts → AreInOrder (pairs_in counts)
counts_in_order counts right = in_order_map (λ p q. pair_cmp p q ≡ Less) (λ c. c.pair) counts right.ordered

pub gathered_form : {pairs : List Pair} (counts : List Counted) → AreCounts counts → pairs ≡ pairs_in counts → dedup (λ x last. covers last x) pairs ≡ normal_form (pairs_in counts)
gathered_form counts right same = ap (dedup (λ x last. covers last x)) same ∙ ordered_form (pairs_in counts) (counts_in_order counts right)

map_has : (counts : List Counted) (c : Counted) → Contains counts c → Contains (pairs_in counts) c.pair
map_has [] c at = absurd (let none = at.1 in omega arith)
map_has (x ∷ xs) c at =
    ⊎_elim (λ (is : x ≡ c). (zero, omega arith, ap (λ (y : Counted). y.pair) is)) (λ (rest : Contains xs c). Contains-cons c.pair x.pair (pairs_in xs) (map_has xs c rest)) (Contains-cons_cases c x xs at)

map_from : (counts : List Counted) (q : Pair) → Contains (pairs_in counts) q → (c : Counted) × Contains counts c × (c.pair ≡ q)
map_from [] q at = absurd (let none = at.1 in omega arith)
map_from (x ∷ xs) q at =
    ⊎_elim
    (λ (is : x.pair ≡ q). (x, (zero, omega arith, refl), is))
    (λ (rest : Contains (pairs_in xs) q). let one = map_from xs q rest in (one.0, Contains-cons one.0 x xs one.1, one.2))
    (Contains-cons_cases q x.pair (pairs_in xs) at)

pub counted_form : (counts : List Counted) (pairs : List Pair) → AreCounts counts → AreCountsOf pairs counts → normal_form (pairs_in counts) ≡ normal_form pairs
counted_form counts pairs right counted = same_form pairs (pairs_in counts) to from
  where
    to : (q : Pair) → Contains pairs q → Contains (pairs_in counts) q
    to q at =
        let there : 0 < times_in q pairs = of_some (λ p. cond (is_same q p) 1 0) pairs q at (subst (λ (b : Bool). 0 < cond b 1 0) (sym (same_itself q)) (omega arith)) in
        let one = some_of (λ c. cond (is_same q c.pair) c.times 0) counts (omega (arith, there, counted q)) in
        subst (λ (p : Pair). Contains (pairs_in counts) p) (sym (same_is q one.0.pair (if_some (is_same q one.0.pair) one.0.times one.2))) (map_has counts one.0 one.1)

    from : (q : Pair) → Contains (pairs_in counts) q → Contains pairs q
    from q at =
        let one = map_from counts q at in
        let positive : 0 < one.0.times = subst (λ (c : Counted). 0 < c.times) one.1.2 (all_at (λ c. 0 < c.times) counts one.1.0 one.0 right.positive one.1.1) in
        let same : is_same q one.0.pair ≡ true = subst (λ (p : Pair). is_same q p ≡ true) (sym one.2) (same_itself q) in
        let there : 0 < count_of q counts = of_some (λ c. cond (is_same q c.pair) c.times 0) counts one.0 one.1 (subst (λ (b : Bool). 0 < cond b one.0.times 0) (sym same) positive) in
        let other = some_of (λ p. cond (is_same q p) 1 0) pairs (omega (arith, there, counted q)) in
        subst (λ (p : Pair). Contains pairs p) (sym (same_is q other.0 (if_some (is_same q other.0) 1 other.2))) other.1

-- ---- lists ----

pub times_more : (q : Pair) (pairs : List Pair) (i : ℕ) (p : Pair) → i < length pairs → p ≡ get_or pairs i p → times_in q (take (i + 1) pairs) ≡ times_in q (take i pairs) + once q p
times_more q pairs i p within is = sum_by_more (λ r. cond (is_same q r) 1 0) pairs i p within ∙ ap (λ (r : Pair). times_in q (take i pairs) + once q r) (sym is)

pub times_left : (pairs : List Pair) (i : ℕ) (p : Pair) → i < length pairs → p ≡ get_or pairs i p → times_in p (take i pairs) < times_in p pairs
times_left pairs i p within is =
    let least = sum_by-take-le (λ r. cond (is_same p r) 1 0) pairs (i + 1) in
    let itself : once p p ≡ 1 = ap (λ (b : Bool). cond b 1 0) (same_itself p) in
    omega (arith, least, itself, times_more p pairs i p within is)
