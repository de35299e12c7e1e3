-- The offsets of references, and the events that stand there.
use Rattle.std.proofs.Common.{◌≡◌, ℕ, zero, ◌+◌, ◌-◌, ◌*◌, ◌<◌, ◌≤◌, nat_lt, Bool, true, false, List, [], ◌∷◌, ◌++◌, length, drop, slice_range, slice_index, map, Option, Some, None, IsSome, is_none, unwrap_or, Contains, ⊎_elim, refl, sym, ◌∙◌, ap, ap₂, subst, arith, if◌then◌else◌}
use Rattle.std.specs.List.{refill}
use Rattle.std.specs.List.Sorted.{IsPermutation}
use Rattle.std.proofs.lemmas.Bool.{false≢true}
use Rattle.std.proofs.lemmas.Bool.Decides.{nat_tests}
use Rattle.std.proofs.lemmas.List.Sorted.{Contains-permutation, IsPermutation-map, IsPermutation-sym}
use Rattle.std.proofs.lemmas.List.{append-nil, append_assoc, take_all, take-append-le, get_or-take, get_or-drop, get_or-map, length-map, length-take-le, length-drop, map_push}
use Rattle.std.proofs.lemmas.List.Elements.{Contains-append_left, Contains-append_right, Contains-append_cases}
use Rattle.kit_bytes.specs.Numbers.{number_at}
use Rattle.kit_bytes.specs.Subscriptions.{Pair, Subscription, pairs_of, normal_form}
use Rattle.kit_bytes.proofs.Members.{Contains-cons, Contains-cons_cases, Contains-nil, Contains-filter, Contains-filter_from, Contains-filter_passes}
use Rattle.mbim_services.specs.SubscribeLists.{numbers_of, pairs_at, both, pairs_referred, list_of_buffer}
use Rattle.mbim_services.specs.EventLists.{pairs_in, subscription_at, events_referred}
use Rattle.mbim_services.proofs.Ranges.{range-is, pairs-whole}
use Rattle.mbim_services.proofs.References.{numbers_few, numbers_two}
use Rattle.subscriptions.proofs.Covering.{same_form, covered_within}
use Rattle.subscribe_lists.specs.ClientLists.{services}
use Rattle.subscribe_lists.specs.Structures.{IsWholeAt, event_at, events_at, offsets}

-- ---- references ----

pub number_first : (bytes : List ℕ) → 4 ≤ length bytes → numbers_of bytes ≡ number_at bytes 0 4 ∷ numbers_of (drop 4 bytes)
number_first [] long = absurd (omega (arith, long))
number_first (a ∷ []) long = absurd (omega (arith, long))
number_first (a ∷ b ∷ []) long = absurd (omega (arith, long))
number_first (a ∷ b ∷ c ∷ []) long = absurd (omega (arith, long))
number_first (a ∷ b ∷ c ∷ d ∷ bytes) long = refl

pub offsets_more : (bytes : List ℕ) → 8 ≤ length bytes → offsets (numbers_of bytes) ≡ number_at bytes 0 4 ∷ offsets (numbers_of (drop 8 bytes))
offsets_more bytes long = ap offsets (numbers_two bytes long)

pub offsets_none : (bytes : List ℕ) → length bytes < 8 → offsets (numbers_of bytes) ≡ []
offsets_none bytes short = numbers_few offsets [] refl (λ n. refl) bytes short

pub offset_there : (done bytes references : List ℕ) (offset : ℕ) → done ++ offsets (numbers_of bytes) ≡ offsets references → 8 ≤ length bytes → offset ≡ number_at bytes 0 4 → Contains (offsets references) offset
offset_there done bytes references offset are long is =
    let rest : List ℕ = offsets (numbers_of (drop 8 bytes)) in
    let there : done ++ (offset ∷ rest) ≡ offsets references = ap (λ (l : List ℕ). done ++ l) (ap (λ (n : ℕ). n ∷ rest) is ∙ sym (offsets_more bytes long)) ∙ are in
    subst (λ (l : List ℕ). Contains l offset) there (Contains-append_right done (offset ∷ rest) offset (zero, omega arith, refl))

abbrev second : List (ℕ × ℕ) → List ℕ
second items = map (λ (it : ℕ × ℕ). it.1) items

pub offset_taken : (items : List (ℕ × ℕ)) (bytes references : List ℕ) (it : ℕ × ℕ) → second items ++ offsets (numbers_of bytes) ≡ offsets references → 8 ≤ length bytes → it.1 ≡ number_at bytes 0 4 → second (items ++ it ∷ []) ++ offsets (numbers_of (drop 8 bytes)) ≡ offsets references
offset_taken items bytes references it are long is =
    let rest : List ℕ = offsets (numbers_of (drop 8 bytes)) in
    ap (λ (l : List ℕ). l ++ rest) (map_push (λ (i : ℕ × ℕ). i.1) items it)
    ∙ append_assoc (second items) (it.1 ∷ []) rest
    ∙ ap (λ (l : List ℕ). second items ++ l) (ap (λ (n : ℕ). n ∷ rest) is ∙ sym (offsets_more bytes long))
    ∙ are

pub offsets_taken : (items new : List (ℕ × ℕ)) (bytes references : List ℕ) → second items ++ offsets (numbers_of bytes) ≡ offsets references → length bytes < 8 → IsPermutation items new → length new ≡ length items → IsPermutation (offsets references) (second (refill (length items) items new))
offsets_taken items new bytes references are short shuffled long =
    let all : second items ≡ offsets references = sym (append-nil (second items)) ∙ ap (λ (l : List ℕ). second items ++ l) (sym (offsets_none bytes short)) ∙ are in
    let filled : refill (length items) items new ≡ new = take-append-le (length items) new (drop (length new) items) (omega (arith, long)) ∙ take_all (length items) new (omega (arith, long)) in
    subst (λ (l : List ℕ). IsPermutation l (second (refill (length items) items new))) all
    (subst (λ (l : List (ℕ × ℕ)). IsPermutation (second items) (second l)) (sym filled) (IsPermutation-map (λ (it : ℕ × ℕ). it.1) items new shuffled))

-- ---- structures ----

byte_in : (xs : List ℕ) (start end i : ℕ) → i < end - start → slice_index (slice_range xs start end) i ≡ slice_index xs (start + i)
byte_in xs start end i within = get_or-take (end - start) (drop start xs) i 0 within ∙ get_or-drop start xs i 0

number_in : (xs : List ℕ) (start size i : ℕ) → i + 4 ≤ size → number_at (slice_range xs start (start + size)) i 4 ≡ number_at xs (start + i) 4
number_in xs start size i within =
    rw (
      byte_in xs start (start + size) i (omega (arith, within)),
      byte_in xs start (start + size) (i + 1) (omega (arith, within)) ∙ ap (slice_index xs) next,
      byte_in xs start (start + size) (i + 1 + 1) (omega (arith, within)) ∙ ap (slice_index xs) third,
      byte_in xs start (start + size) (i + 1 + 1 + 1) (omega (arith, within)) ∙ ap (slice_index xs) fourth,
    ) refl
  where
    next : start + (i + 1) ≡ start + i + 1
    next = omega arith

    third : start + (i + 1 + 1) ≡ start + i + 1 + 1
    third = omega arith

    fourth : start + (i + 1 + 1 + 1) ≡ start + i + 1 + 1 + 1
    fourth = omega arith

-- the structure at which a reference points is whole, and its event is that of its offset
record StandsAt (buffer : List ℕ) (offset size : ℕ) : Type 0 where
  whole : IsWholeAt buffer offset
  event : subscription_at buffer offset size ≡ event_at buffer offset

stands_at : (buffer : List ℕ) (offset size : ℕ) → IsSome (pairs_at buffer offset size) → StandsAt buffer offset size
stands_at buffer offset size some = by (nat_lt (length buffer) (offset + size)) refl (nat_lt (length structure) (20 + 4 * number_at structure 16 4)) refl some
  where
    structure : List ℕ
    structure = slice_range buffer offset (offset + size)

    pairs : Option (List Pair)
    pairs = Some (pairs_of (slice_range structure 0 16) (numbers_of (slice_range structure 20 (20 + 4 * number_at structure 16 4))))

    here : offset + size ≤ length buffer → 20 + 4 * number_at structure 16 4 ≤ length structure → StandsAt buffer offset size
    here within fits =
        let long : length structure ≡ size = length-take-le (offset + size - offset) (drop offset buffer) (omega (arith, within, length-drop offset buffer)) ∙ omega arith in
        let count : number_at structure 16 4 ≡ number_at buffer (offset + 16) 4 = number_in buffer offset size 16 (omega (arith, fits, long)) in
        let is = range-is buffer offset size (4 * number_at structure 16 4) (slice_range buffer offset (offset + 16)) refl within refl fits in
        record {
          whole = omega (arith, within, fits, long, count);
          event = sym is ∙ ap (λ (n : ℕ). record { uuid = slice_range buffer offset (offset + 16); cids = numbers_of (slice_range buffer (offset + 20) (offset + 20 + 4 * n)) }) count;
        }

    by : (past : Bool) → nat_lt (length buffer) (offset + size) ≡ past → (short : Bool) → nat_lt (length structure) (20 + 4 * number_at structure 16 4) ≡ short → IsSome (if past then None else if short then None else pairs) → StandsAt buffer offset size
    by true past short is some = absurd (false≢true some)
    by false past true is some = absurd (false≢true some)
    by false past false is some = here (within (length buffer) (offset + size) past) (within (length structure) (20 + 4 * number_at structure 16 4) is)
      where
        within : (m n : ℕ) → nat_lt m n ≡ false → n ≤ m
        within m n not_less = grind (arith, nat_tests, not_less)

both_some : (a b : Option (List Pair)) → IsSome (both a b) → IsSome a × IsSome b
both_some None b some = absurd (false≢true some)
both_some (Some pairs) None some = absurd (false≢true some)
both_some (Some pairs) (Some more) some = (refl, refl)

pub events_referred_are : (buffer references : List ℕ) → IsSome (pairs_referred buffer references) → events_referred buffer references ≡ map (event_at buffer) (offsets references)
events_referred_are buffer [] some = refl
events_referred_are buffer (offset ∷ []) some = refl
events_referred_are buffer (offset ∷ size ∷ references) some =
    let parts = both_some (pairs_at buffer offset size) (pairs_referred buffer references) some in
    ap₂ (λ (s : Subscription) (l : List Subscription). s ∷ l) (stands_at buffer offset size parts.0).event (events_referred_are buffer references parts.1)

pub whole_referred : (buffer references : List ℕ) → IsSome (pairs_referred buffer references) → (offset : ℕ) → Contains (offsets references) offset → IsWholeAt buffer offset
whole_referred buffer [] some offset at = absurd (Contains-nil offset at)
whole_referred buffer (first ∷ []) some offset at = absurd (Contains-nil offset at)
whole_referred buffer (first ∷ size ∷ references) some offset at =
    let parts = both_some (pairs_at buffer first size) (pairs_referred buffer references) some in
    ⊎_elim
    (λ (is : first ≡ offset). subst (λ (n : ℕ). IsWholeAt buffer n) is (stands_at buffer first size parts.0).whole)
    (λ (rest : Contains (offsets references) offset). whole_referred buffer references parts.1 offset rest)
    (Contains-cons_cases offset first (offsets references) at)

-- ---- all pairs ----

-- where they stand in a list's buffer
abbrev pub references : (buffer : List ℕ) → List ℕ
references buffer = numbers_of (slice_range buffer 4 (4 + 8 * number_at buffer 0 4))

pub references_fit : (buffer : List ℕ) → IsSome (list_of_buffer buffer) → 4 + 8 * number_at buffer 0 4 ≤ length buffer
references_fit buffer some = by (nat_lt (length buffer) (4 + 8 * number_at buffer 0 4)) refl some
  where
    by : (past : Bool) → nat_lt (length buffer) (4 + 8 * number_at buffer 0 4) ≡ past → IsSome (if past then None else pairs_referred buffer (references buffer)) → 4 + 8 * number_at buffer 0 4 ≤ length buffer
    by true past some = absurd (false≢true some)
    by false past some = grind (arith, nat_tests, past)

pub pairs_referred_are : (buffer : List ℕ) (pairs : List Pair) → list_of_buffer buffer ≡ Some pairs → pairs_referred buffer (references buffer) ≡ Some pairs
pairs_referred_are buffer pairs is = by (nat_lt (length buffer) (4 + 8 * number_at buffer 0 4)) is
  where
    by : (past : Bool) → (if past then None else pairs_referred buffer (references buffer)) ≡ Some pairs → pairs_referred buffer (references buffer) ≡ Some pairs
    by true is = absurd (cc)
    by false is = is

record HaveSamePairs (xs ys : List Pair) : Type 0 where
  to : (q : Pair) → Contains xs q → Contains ys q
  from : (q : Pair) → Contains ys q → Contains xs q

same_normal : (xs ys : List Pair) → HaveSamePairs xs ys → normal_form xs ≡ normal_form ys
same_normal xs ys same = same_form xs ys (covered_within xs ys same.to) (covered_within ys xs same.from)

services_moved : (xs ys : List Pair) → ((q : Pair) → Contains xs q → Contains ys q) → (q : Pair) → Contains (services xs) q → Contains (services ys) q
services_moved xs ys moved q at =
    Contains-filter (λ (p : Pair). is_none p.1) ys q (moved q (Contains-filter_from (λ (p : Pair). is_none p.1) xs q at)) (Contains-filter_passes (λ (p : Pair). is_none p.1) xs q at)

same_services : (xs ys : List Pair) → HaveSamePairs xs ys → HaveSamePairs (services xs) (services ys)
same_services xs ys same = record { to = services_moved xs ys same.to; from = services_moved ys xs same.from }

event_has : (buffer : List ℕ) (xs : List ℕ) (offset : ℕ) (q : Pair) → Contains xs offset → Contains (pairs_of (event_at buffer offset).uuid (event_at buffer offset).cids) q → Contains (pairs_in (map (event_at buffer) xs)) q
event_has buffer [] offset q there at = absurd (Contains-nil offset there)
event_has buffer (x ∷ xs) offset q there at =
    let first : List Pair = pairs_of (event_at buffer x).uuid (event_at buffer x).cids in
    ⊎_elim
    (λ (is : x ≡ offset). Contains-append_left first (pairs_in (map (event_at buffer) xs)) q (subst (λ (o : ℕ). Contains (pairs_of (event_at buffer o).uuid (event_at buffer o).cids) q) (sym is) at))
    (λ (rest : Contains xs offset). Contains-append_right first (pairs_in (map (event_at buffer) xs)) q (event_has buffer xs offset q rest at))
    (Contains-cons_cases offset x xs there)

pairs_moved : (buffer : List ℕ) (xs ys : List ℕ) → ((offset : ℕ) → Contains xs offset → Contains ys offset) → (q : Pair) → Contains (pairs_in (map (event_at buffer) xs)) q → Contains (pairs_in (map (event_at buffer) ys)) q
pairs_moved buffer [] ys moved q at = absurd (Contains-nil q at)
pairs_moved buffer (x ∷ xs) ys moved q at =
    ⊎_elim
    (λ (first : Contains (pairs_of (event_at buffer x).uuid (event_at buffer x).cids) q). event_has buffer ys x q (moved x (zero, omega arith, refl)) first)
    (λ (rest : Contains (pairs_in (map (event_at buffer) xs)) q). pairs_moved buffer xs ys (λ offset there. moved offset (Contains-cons offset x xs there)) q rest)
    (Contains-append_cases (pairs_of (event_at buffer x).uuid (event_at buffer x).cids) (pairs_in (map (event_at buffer) xs)) q at)

events_second : (buffer : List ℕ) (order : List (ℕ × ℕ)) → map (event_at buffer) (second order) ≡ events_at buffer order
events_second buffer [] = refl
events_second buffer (it ∷ order) = ap (λ (l : List Subscription). event_at buffer it.1 ∷ l) (events_second buffer order)

second_has : (order : List (ℕ × ℕ)) (at : ℕ × ℕ) → Contains order at → Contains (second order) at.1
second_has order at there =
    (there.0, omega (arith, there.1, length-map order (λ (it : ℕ × ℕ). it.1)), get_or-map (λ (it : ℕ × ℕ). it.1) order there.0 at at.1 there.1 ∙ ap (λ (it : ℕ × ℕ). it.1) there.2)

module _ (buffer : List ℕ) (pairs : List Pair) (is : list_of_buffer buffer ≡ Some pairs) where
  some_referred : IsSome (pairs_referred buffer (references buffer))
  some_referred = subst (λ (o : Option (List Pair)). IsSome o) (sym (pairs_referred_are buffer pairs is)) refl

  pub referred_whole : (offset : ℕ) → Contains (offsets (references buffer)) offset → IsWholeAt buffer offset
  referred_whole = whole_referred buffer (references buffer) some_referred

  pairs_are : pairs ≡ pairs_in (map (event_at buffer) (offsets (references buffer)))
  pairs_are =
      let all : Some pairs ≡ Some (pairs_in (events_referred buffer (references buffer))) = sym (pairs_referred_are buffer pairs is) ∙ pairs-whole buffer (references buffer) some_referred in
      ap (λ (o : Option (List Pair)). unwrap_or o []) all ∙ ap pairs_in (events_referred_are buffer (references buffer) some_referred)

  module _ (order : List (ℕ × ℕ)) (shuffled : IsPermutation (offsets (references buffer)) (map (λ it. it.1) order)) where
    pub order_whole : (at : ℕ × ℕ) → Contains order at → IsWholeAt buffer at.1
    order_whole at there = referred_whole at.1 (Contains-permutation (second order) (offsets (references buffer)) at.1 (IsPermutation-sym (offsets (references buffer)) (second order) shuffled) (second_has order at there))

    same_pairs : HaveSamePairs pairs (pairs_in (events_at buffer order))
    same_pairs = record {
      to = λ q at. subst (λ (l : List Subscription). Contains (pairs_in l) q) (events_second buffer order)
          (pairs_moved buffer (offsets (references buffer)) (second order) (λ offset there. Contains-permutation (offsets (references buffer)) (second order) offset shuffled there) q (subst (λ (l : List Pair). Contains l q) pairs_are at));
      from = λ q at. subst (λ (l : List Pair). Contains l q) (sym pairs_are)
          (pairs_moved buffer (second order) (offsets (references buffer)) (λ offset there. Contains-permutation (second order) (offsets (references buffer)) offset (IsPermutation-sym (offsets (references buffer)) (second order) shuffled) there) q
          (subst (λ (l : List Subscription). Contains (pairs_in l) q) (sym (events_second buffer order)) at));
    }

    pub order_form : normal_form pairs ≡ normal_form (pairs_in (events_at buffer order))
    order_form = same_normal pairs (pairs_in (events_at buffer order)) same_pairs

    pub order_services : normal_form (services pairs) ≡ normal_form (services (pairs_in (events_at buffer order)))
    order_services = same_normal (services pairs) (services (pairs_in (events_at buffer order))) (same_services pairs (pairs_in (events_at buffer order)) same_pairs)
