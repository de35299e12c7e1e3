-- What the counts of the shown lists are, when a client changes, leaves or joins.
use Rattle.std.proofs.Common.{◌≡◌, ℕ, ◌+◌, ◌<◌, ◌≤◌, Bool, true, false, cond, not, nat_lt, List, [], ◌∷◌, ◌++◌, length, take, get_or, set, map, filter, refl, ap, sym, ◌∙◌, arith, Some, None}
use Rattle.std.specs.List.{AllByRecursion, flat_map, position, position_or_len, sum_by}
use Rattle.std.proofs.lemmas.Bool.Decides.{nat_tests}
use Rattle.std.proofs.lemmas.List.{append-nil, length-append, length-set}
use Rattle.std.proofs.lemmas.List.Elements.{filter-append}
use Rattle.std.proofs.lemmas.List.Sums.{sum_by-cons, sum_by-append, sum_by-set, sum_by-take-le, sum_by_more, get_or-le-sum_by}
use Rattle.kit_bytes.specs.Subscriptions.{Pair}
use Rattle.kit_bytes.proofs.Lists.{all_set}
use Rattle.subscriptions.specs.declared.counts.Counted.{Counted}
use Rattle.subscriptions.specs.Clients.{Client, is_of, leaves, share, gathered}
use Rattle.subscriptions.specs.Counts.{AreRecounted, CountShown, count_of, is_same, times_in, total}
use Rattle.subscriptions.proofs.Calls.{gathered_short, hidden_gone}
use Rattle.subscriptions.proofs.Clients.{share_first}

-- ---- how much of something the shown lists have ----

-- of the lists of one connection
abbrev pub gone : (List Pair → ℕ) → ℕ → List Client → ℕ
gone m conn clients = sum_by (λ client. m (cond (is_of conn client) (share client) [])) clients

module _ (m : List Pair → ℕ) (none : m [] ≡ 0) (append : (xs ys : List Pair) → m (xs ++ ys) ≡ m xs + m ys) where
  first_sum : (x : Client) (xs : List Client) → m (gathered (x ∷ xs)) ≡ m (share x) + m (gathered xs)
  first_sum x xs = ap m (share_first x xs) ∙ append (share x) (gathered xs)

  gathered_sum : (xs : List Client) → m (gathered xs) ≡ sum_by (λ client. m (share client)) xs
  gathered_sum [] = none
  gathered_sum (x ∷ xs) = first_sum x xs ∙ ap (λ (n : ℕ). m (share x) + n) (gathered_sum xs) ∙ sym (sum_by-cons (λ client. m (share client)) x xs)

  share_least : (xs : List Client) (i : ℕ) (x : Client) → i < length xs → x ≡ get_or xs i x → m (share x) ≤ m (gathered xs)
  share_least xs i x within is =
      let least = get_or-le-sum_by (λ client. m (share client)) xs i x within in let same = ap (λ client. m (share client)) is in omega (arith, least, same, gathered_sum xs)

  share_changed : (xs : List Client) (i : ℕ) (was now : Client) → i < length xs → was ≡ get_or xs i was → m (gathered (set xs i now)) + m (share was) ≡ m (gathered xs) + m (share now)
  share_changed xs i was now within is =
      let sums = sum_by-set (λ client. m (share client)) xs i now was within in
      let same = ap (λ client. m (share client)) is in
      omega (arith, sums, same, gathered_sum xs, gathered_sum (set xs i now))

  module _ (conn : ℕ) where
    gone_rest : (xs : List Client) → gone m conn xs + m (gathered (leaves conn xs)) ≡ m (gathered xs)
    gone_rest [] = omega (arith, none)
    gone_rest (x ∷ xs) = by (is_of conn x) refl (gone_rest xs)
      where
        by : (b : Bool) → is_of conn x ≡ b → gone m conn xs + m (gathered (leaves conn xs)) ≡ m (gathered xs) → gone m conn (x ∷ xs) + m (gathered (cond (not b) (x ∷ leaves conn xs) (leaves conn xs))) ≡ m (gathered (x ∷ xs))
        by true here others =
            let one : m (cond (is_of conn x) (share x) []) ≡ m (share x) = ap (λ (b : Bool). m (cond b (share x) [])) here in
            omega (arith, one, others, first_sum x xs, sum_by-cons (λ client. m (cond (is_of conn client) (share client) [])) x xs)
        by false other others =
            let one : m (cond (is_of conn x) (share x) []) ≡ 0 = ap (λ (b : Bool). m (cond b (share x) [])) other ∙ none in
            omega (arith, one, others, first_sum x xs, first_sum x (leaves conn xs), sum_by-cons (λ client. m (cond (is_of conn client) (share client) [])) x xs)

    module _ (xs : List Client) (i : ℕ) (x : Client) (within : i < length xs) (is : x ≡ get_or xs i x) where
      gone_next : gone m conn (take (i + 1) xs) ≡ gone m conn (take i xs) + m (cond (is_of conn x) (share x) [])
      gone_next =
          sum_by_more (λ client. m (cond (is_of conn client) (share client) [])) xs i x within ∙ ap (λ (c : Client). gone m conn (take i xs) + m (cond (is_of conn c) (share c) [])) (sym is)

      gone_here : is_of conn x ≡ true → gone m conn (take (i + 1) xs) ≡ gone m conn (take i xs) + m (share x)
      gone_here here = gone_next ∙ ap (λ (b : Bool). gone m conn (take i xs) + m (cond b (share x) [])) here

      gone_other : is_of conn x ≡ false → gone m conn (take (i + 1) xs) ≡ gone m conn (take i xs)
      gone_other other = let next = gone_next in let one : m (cond (is_of conn x) (share x) []) ≡ 0 = ap (λ (b : Bool). m (cond b (share x) [])) other ∙ none in omega (arith, next, one)

      -- there is still enough to be taken back
      gone_left : (now before : ℕ) → is_of conn x ≡ true → now + gone m conn (take i xs) ≡ before → before ≡ m (gathered xs) → m (share x) ≤ now
      gone_left now before here so_far all =
          let least = sum_by-take-le (λ client. m (cond (is_of conn client) (share client) [])) xs (i + 1) in
          omega (arith, so_far, all, least, gone_here here, gone_rest xs)

-- ---- how often a pair stands in the shown lists, and how many pairs they have ----

times_none : (q : Pair) → times_in q [] ≡ 0
times_none q = refl

times_append : (q : Pair) (xs ys : List Pair) → times_in q (xs ++ ys) ≡ times_in q xs + times_in q ys
times_append q xs ys = sum_by-append (λ p. cond (is_same q p) 1 0) xs ys

length_none : length {A = Pair} [] ≡ 0
length_none = refl

pub position_within : {X : Type 0} (p : X → Bool) (xs : List X) (i : ℕ) → Some i ≡ position p xs → i < length xs
position_within p xs i e = by (nat_lt (position_or_len p xs) (length xs)) refl (sym e)
  where
    by : (b : Bool) → nat_lt (position_or_len p xs) (length xs) ≡ b → cond b (Some (position_or_len p xs)) None ≡ Some i → i < length xs
    by true t e = let here : position_or_len p xs ≡ i = cc in let within : position_or_len p xs < length xs = grind (arith, nat_tests, t) in omega (arith, here, within)
    by false t e = absurd (cc)

-- ---- what they have together ----

pub shown_few : (xs : List Client) (counts : List Counted) → CountShown xs counts → length xs ≤ 64 → AllByRecursion (λ c. length c.list ≤ 30) xs → total counts ≤ 1920
shown_few xs counts counted few all = let short = gathered_short xs all in omega (arith, short, few, counted.in_all)

-- ---- a client changes ----

module _ (xs : List Client) (i : ℕ) (was : Client) (counts : List Counted) (is : was ≡ get_or xs i was) (counted : CountShown xs counts) where
  pub share_there : i < length xs → (q : Pair) → times_in q (share was) ≤ count_of q counts
  share_there within q = let least = share_least (times_in q) (times_none q) (times_append q) xs i was within is in omega (arith, least, counted.counted q)

  pub share_fits : (now : Client) → i < length xs → length xs ≤ 64 → AllByRecursion (λ c. length c.list ≤ 30) xs → length now.list ≤ 30 → total counts + length (share now) ≤ 1920 + length (share was)
  share_fits now within few all short =
      let changed = share_changed (λ (l : List Pair). length l) refl (λ xs ys. length-append xs ys) xs i was now within is in
      let long = gathered_short (set xs i now) (all_set (λ c. length c.list ≤ 30) xs i now was (λ old. short) all) in
      let same : length (set xs i now) ≡ length xs = length-set xs i now in
      omega (arith, changed, long, same, few, counted.in_all)

  pub recounted : (now : Client) (after : List Counted) → i < length xs → AreRecounted was now counts after → CountShown (set xs i now) after
  recounted now after within again = record {
    counted = λ q. let changed = share_changed (times_in q) (times_none q) (times_append q) xs i was now within is in omega (arith, changed, again.counted q, counted.counted q);
    in_all = let changed = share_changed (λ (l : List Pair). length l) refl (λ xs ys. length-append xs ys) xs i was now within is in omega (arith, changed, again.in_all, counted.in_all);
  }

-- what the table promises of its clients, and of what it counted
pub record AreCounted (clients : List Client) (counts : List Counted) : Type 0 where
  pub few : length clients ≤ 64
  pub short : AllByRecursion (λ client. length client.list ≤ 30) clients
  pub counted : CountShown clients counts

pub one_changed : (p : Client → Bool) (xs : List Client) (i : ℕ) (was now : Client) (before after : List Counted) → was ≡ get_or xs i was → Some i ≡ position p xs → AreCounted xs before → AreRecounted was now before after → length now.list ≤ 30 → AreCounted (set xs i now) after
one_changed p xs i was now before after is there all again long =
    let within : i < length xs = position_within p xs i there in
    record {
      few = omega (arith, length-set xs i now, all.few);
      short = all_set (λ client. length client.list ≤ 30) xs i now was (λ old. long) all.short;
      counted = recounted xs i was before is all.counted now after within again;
    }

pub counted_few : (xs : List Client) (counts : List Counted) → AreCounted xs counts → total counts ≤ 1920
counted_few xs counts all = shown_few xs counts all.counted all.few all.short

-- ---- a client joins ----

pub joined_gathered : (xs : List Client) (client : Client) → client.shown ≡ false → gathered (xs ++ client ∷ []) ≡ gathered xs
joined_gathered xs client hidden =
    ap (λ (l : List Client). flat_map (λ (list : List Pair). list) (map (λ c. c.list) l))
    (filter-append (λ c. c.shown) xs (client ∷ []) ∙ ap (λ (l : List Client). filter (λ c. c.shown) xs ++ l) (hidden_gone [] client hidden) ∙ append-nil (filter (λ c. c.shown) xs))

pub joined_counted : (xs : List Client) (client : Client) (counts : List Counted) → client.shown ≡ false → CountShown xs counts → CountShown (xs ++ client ∷ []) counts
joined_counted xs client counts hidden shown = record {
  counted = λ q. shown.counted q ∙ ap (times_in q) (sym (joined_gathered xs client hidden));
  in_all = shown.in_all ∙ ap (λ (l : List Pair). length l) (sym (joined_gathered xs client hidden));
}

-- ---- a client leaves ----

module _ (conn : ℕ) (xs : List Client) (before : List Counted) where
  -- the lists of this connection among the first so many clients were taken back
  pub record UncountedSoFar (i : ℕ) (now : List Counted) : Type 0 where
    pub counted : (q : Pair) → count_of q now + gone (times_in q) conn (take i xs) ≡ count_of q before
    pub in_all : total now + gone (λ (l : List Pair). length l) conn (take i xs) ≡ total before

  pub uncounted_none : UncountedSoFar 0 before
  uncounted_none = record { counted = λ q. omega arith; in_all = omega arith }

  module _ (now : List Counted) (i : ℕ) (x : Client) (within : i < length xs) (is : x ≡ get_or xs i x) (so_far : UncountedSoFar i now) where
    pub uncounted_there : CountShown xs before → is_of conn x ≡ true → (q : Pair) → times_in q (share x) ≤ count_of q now
    uncounted_there shown here q = gone_left (times_in q) (times_none q) (times_append q) conn xs i x within is (count_of q now) (count_of q before) here (so_far.counted q) (shown.counted q)

    pub uncounted_here : (after : List Counted) → is_of conn x ≡ true → ((q : Pair) → count_of q after + times_in q (share x) ≡ count_of q now) → total after + length (share x) ≡ total now → UncountedSoFar (i + 1) after
    uncounted_here after here counted in_all = record {
      counted = λ q. let more = gone_here (times_in q) (times_none q) (times_append q) conn xs i x within is here in omega (arith, more, counted q, so_far.counted q);
      in_all = let more = gone_here (λ (l : List Pair). length l) refl (λ xs ys. length-append xs ys) conn xs i x within is here in omega (arith, more, in_all, so_far.in_all);
    }

    pub uncounted_other : is_of conn x ≡ false → UncountedSoFar (i + 1) now
    uncounted_other other = record {
      counted = λ q. let same = gone_other (times_in q) (times_none q) (times_append q) conn xs i x within is other in omega (arith, same, so_far.counted q);
      in_all = let same = gone_other (λ (l : List Pair). length l) refl (λ xs ys. length-append xs ys) conn xs i x within is other in omega (arith, same, so_far.in_all);
    }

  pub uncounted_all : (now : List Counted) (i : ℕ) → CountShown xs before → UncountedSoFar i now → take i xs ≡ xs → CountShown (leaves conn xs) now
  uncounted_all now i shown so_far all = record {
    counted = λ q. let rest = gone_rest (times_in q) (times_none q) (times_append q) conn xs in let whole = ap (gone (times_in q) conn) all in omega (arith, rest, whole, so_far.counted q, shown.counted q);
    in_all =
        let rest = gone_rest (λ (l : List Pair). length l) refl (λ xs ys. length-append xs ys) conn xs in
        let whole = ap (gone (λ (l : List Pair). length l) conn) all in
        omega (arith, rest, whole, so_far.in_all, shown.in_all);
  }
