-- How often pairs were counted: each counted pair once, in order, with its count.
use Rattle.std.specs.Prelude.{◌≡◌, ℕ, ◌+◌, ◌<◌, ◌≤◌, Bool, true, false, if◌then◌else◌, List, length, map, slice_index_or}
use Rattle.std.specs.List.{AllByRecursion, AllWithin, count_by, sum_by}
use Rattle.std.specs.declared.cmp.Ordering.TheVariants.{Less}
use Rattle.std.specs.Ordering.{is_eq, is_lt}
use Rattle.kit_bytes.specs.Sorted.{IsInOrder}
use Rattle.kit_bytes.specs.Subscriptions.{Pair, pair_cmp}
use Rattle.subscriptions.specs.Clients.{Client, gathered, share}
use Rattle.subscriptions.specs.declared.counts.Counted.{Counted}

abbrev pub is_same : Pair → Pair → Bool
is_same pair other = is_eq (pair_cmp pair other)

-- ---- lists ----

-- how often the pair stands in a list
abbrev pub times_in : Pair → List Pair → ℕ
times_in pair pairs = count_by (is_same pair) pairs

-- how often it stands in the list of this one pair
abbrev pub once : Pair → Pair → ℕ
once pair other = if is_same pair other then 1 else 0

-- ---- counts ----

-- each pair once, in order, and none that isn't counted
pub record AreCounts (counts : List Counted) : Type 0 where
  pub ordered : IsInOrder (λ counted other. pair_cmp counted.pair other.pair ≡ Less) counts
  pub positive : AllByRecursion (λ counted. 0 < counted.times) counts

abbrev pub pairs_in : List Counted → List Pair
pairs_in counts = map (λ counted. counted.pair) counts

-- how often the pair was counted
abbrev pub count_of : Pair → List Counted → ℕ
count_of pair counts = sum_by (λ counted. if is_same pair counted.pair then counted.times else 0) counts

-- how many pairs were counted
abbrev pub total : List Counted → ℕ
total counts = sum_by (λ counted. counted.times) counts

-- each pair was counted as often as it stands in the list
abbrev pub AreCountsOf : List Pair → List Counted → Type 0
AreCountsOf pairs counts = (pair : Pair) → count_of pair counts ≡ times_in pair pairs

-- ---- the shown lists ----

-- they are the counts of the shown lists
pub record CountShown (clients : List Client) (counts : List Counted) : Type 0 where
  pub counted : AreCountsOf (gathered clients) counts
  pub in_all : total counts ≡ length (gathered clients)

-- the client's list was counted as it is now, in place of what it was
pub record AreRecounted (was now : Client) (before after : List Counted) : Type 0 where
  pub counted : (pair : Pair) → count_of pair after + times_in pair (share was) ≡ count_of pair before + times_in pair (share now)
  pub in_all : total after + length (share was) ≡ total before + length (share now)

-- ---- places ----

-- there stands the pair, or it would stand there
pub record IsPlaceOf (pair : Pair) (counts : List Counted) (place : ℕ) : Type 0 where
  pub within : place ≤ length counts
  pub before : AllWithin (λ counted. is_lt (pair_cmp counted.pair pair) ≡ true) counts 0 place
  pub behind : AllWithin (λ counted. is_lt (pair_cmp counted.pair pair) ≡ false) counts place (length counts)

pub record StandsAt (pair : Pair) (counts : List Counted) (place : ℕ) : Type 0 where
  pub within : place < length counts
  pub same : (d : Counted) → is_same pair (slice_index_or counts place d).pair ≡ true
