-- Parts of a buffer, the numbers in them, and events by their places.
use Rattle.std.proofs.Common.{◌≡◌, ℕ, zero, suc, ◌+◌, ◌-◌, ◌*◌, ◌/◌, ◌%◌, ◌<◌, ◌≤◌, inl, inr, min, nat_lt, Bool, true, false, List, [], ◌∷◌, ◌++◌, length, take, drop, slice_range, map, Option, Some, None, IsSome, option_map, Contains, ⊎_elim, refl, sym, ◌∙◌, ap, ap₂, subst, arith, if◌then◌else◌}
use Rattle.std.proofs.lemmas.List.{drop-drop, drop-take, take-take, length-drop, length-take-le}
use Rattle.std.proofs.Math.Seq.{take-add}
use Rattle.std.proofs.lemmas.Bool.{false≢true}
use Rattle.std.proofs.lemmas.List.Elements.{Contains-append_left, Contains-append_right, Contains-append_cases}
use Rattle.kit_bytes.specs.Numbers.{number_at}
use Rattle.kit_bytes.specs.Subscriptions.{Pair, Subscription, pairs_of}
use Rattle.kit_bytes.proofs.Members.{Contains-cons, Contains-cons_cases, Contains-nil}
use Rattle.mbim_services.specs.SubscribeLists.{numbers_of, pairs_at, both, pairs_referred}
use Rattle.mbim_services.specs.EventLists.{IsRange, Leaves, cids_in, subscription_at, subscription_of_range, events_referred, pairs_in}
use Rattle.mbim_services.specs.declared.events.CidRange.{CidRange}
use Rattle.mbim_services.proofs.Listed.{at-some, structure-some}
use Rattle.mbim_services.proofs.References.{numbers_few, numbers_two, references_more}

-- ---- slices ----

pub slice-of_slice : (xs : List ℕ) (start end a b : ℕ) → a ≤ b → start + b ≤ end → slice_range (slice_range xs start end) a b ≡ slice_range xs (start + a) (start + b)
slice-of_slice xs start end a b ordered within =
    let long : end - start ≡ a + (end - start - a) = omega (arith, ordered, within) in
    let count : start + b - (start + a) ≡ b - a = omega arith in
    ap (λ (n : ℕ). take (b - a) (drop a (take n (drop start xs)))) long
    ∙ ap (take (b - a)) (drop-take a (end - start - a) (drop start xs))
    ∙ take-take (b - a) (end - start - a) (drop a (drop start xs)) (omega (arith, ordered, within))
    ∙ ap (take (b - a)) (drop-drop a start xs)
    ∙ ap (λ (n : ℕ). take n (drop (start + a) xs)) (sym count)

slice-split : (xs : List ℕ) (start mid end : ℕ) → start ≤ mid → mid ≤ end → slice_range xs start end ≡ slice_range xs start mid ++ slice_range xs mid end
slice-split xs start mid end before behind =
    let all : end - start ≡ (mid - start) + (end - mid) = omega (arith, before, behind) in
    let there : start + (mid - start) ≡ mid = omega (arith, before) in
    ap (λ (n : ℕ). take n (drop start xs)) all
    ∙ take-add (mid - start) (end - mid) (drop start xs)
    ∙ ap (λ (l : List ℕ). slice_range xs start mid ++ take (end - mid) l) (drop-drop (mid - start) start xs ∙ ap (λ (n : ℕ). drop n xs) there)

-- ---- numbers ----

numbers-append : (count : ℕ) (xs ys : List ℕ) → length xs ≡ 4 * count → numbers_of (xs ++ ys) ≡ numbers_of xs ++ numbers_of ys
numbers-append zero [] ys long = refl
numbers-append zero (x ∷ xs) ys long = absurd (omega (arith, long))
numbers-append (suc count) [] ys long = absurd (omega (arith, long))
numbers-append (suc count) (a ∷ []) ys long = absurd (omega (arith, long))
numbers-append (suc count) (a ∷ b ∷ []) ys long = absurd (omega (arith, long))
numbers-append (suc count) (a ∷ b ∷ c ∷ []) ys long = absurd (omega (arith, long))
numbers-append (suc count) (a ∷ b ∷ c ∷ d ∷ xs) ys long = ap (λ (l : List ℕ). number_at (a ∷ b ∷ c ∷ d ∷ []) 0 4 ∷ l) (numbers-append count xs ys (omega (arith, long)))

numbers-split : (buffer : List ℕ) (start mid end count : ℕ) → mid ≡ start + 4 * count → mid ≤ end → end ≤ length buffer
    → numbers_of (slice_range buffer start end) ≡ numbers_of (slice_range buffer start mid) ++ numbers_of (slice_range buffer mid end)
numbers-split buffer start mid end count there behind within =
    let long : length (slice_range buffer start mid) ≡ 4 * count = length-take-le (mid - start) (drop start buffer) (omega (arith, there, behind, within, length-drop start buffer)) ∙ omega (arith, there) in
    ap numbers_of (slice-split buffer start mid end (omega (arith, there)) behind) ∙ numbers-append count (slice_range buffer start mid) (slice_range buffer mid end) long

-- the numbers of a part are numbers of the whole
part-within : (buffer : List ℕ) (start from to end before count behind : ℕ) → from ≡ start + 4 * before → to ≡ from + 4 * count → end ≡ to + 4 * behind → end ≤ length buffer
    → (cid : ℕ) → Contains (numbers_of (slice_range buffer from to)) cid → Contains (numbers_of (slice_range buffer start end)) cid
part-within buffer start from to end before count behind from_is to_is end_is within cid at =
    let rest = numbers-split buffer from to end count to_is (omega (arith, end_is)) within in
    let all = numbers-split buffer start from end before from_is (omega (arith, to_is, end_is)) within in
    subst (λ (l : List ℕ). Contains l cid) (sym all)
    (Contains-append_right (numbers_of (slice_range buffer start from)) (numbers_of (slice_range buffer from end)) cid
    (subst (λ (l : List ℕ). Contains l cid) (sym rest) (Contains-append_left (numbers_of (slice_range buffer from to)) (numbers_of (slice_range buffer to end)) cid at)))

-- ---- what is left of CIDs ----

apart : (low high : ℕ) → low ≤ high → high % 4 ≡ low % 4 → (count : ℕ) × (high ≡ low + 4 * count)
apart low high before same = (high / 4 - low / 4, omega (arith, before, same))

pub leaves-back : (buffer : List ℕ) (range other : CidRange) (mid : ℕ) → IsRange buffer range → IsRange buffer other → other.uuid ≡ range.uuid → range.start % 4 ≡ other.start % 4 → other.start ≤ range.start → range.start < other.end → mid ≡ min other.end range.end
    → Leaves buffer range other (record { uuid = range.uuid; start = mid; end = range.end })
leaves-back buffer range other mid is other_is service same before cut mid_is =
    let gap = apart other.start range.start before same in
    let known : ℕ = min (other_is.count - gap.0) is.count in
    let there : mid ≡ range.start + 4 * known = omega (arith, mid_is, is.long, other_is.long, gap.1, cut) in
    let split = numbers-split buffer range.start mid range.end known there (omega (arith, mid_is)) is.within in
    record {
      service = refl;
      stands = record { count = is.count - known; long = omega (arith, there, is.long); within = is.within };
      within = λ cid at. subst (λ (l : List ℕ). Contains l cid) (sym split) (Contains-append_right (numbers_of (slice_range buffer range.start mid)) (numbers_of (slice_range buffer mid range.end)) cid at);
      others = λ cid at.
          ⊎_elim
          (λ (front : Contains (numbers_of (slice_range buffer range.start mid)) cid).
          inr (service, part-within buffer other.start range.start mid other.end gap.0 known (other_is.count - gap.0 - known) gap.1 there (omega (arith, mid_is, other_is.long, gap.1, cut, there)) other_is.within cid front))
          (λ (back : Contains (numbers_of (slice_range buffer mid range.end)) cid). inl back)
          (Contains-append_cases (numbers_of (slice_range buffer range.start mid)) (numbers_of (slice_range buffer mid range.end)) cid (subst (λ (l : List ℕ). Contains l cid) split at));
    }

-- ---- events ----

events-more : (buffer bytes : List ℕ) → 8 ≤ length bytes → events_referred buffer (numbers_of bytes) ≡ subscription_at buffer (number_at bytes 0 4) (number_at bytes 4 4) ∷ events_referred buffer (numbers_of (drop 8 bytes))
events-more buffer bytes long = ap (events_referred buffer) (numbers_two bytes long)

events-none : (buffer bytes : List ℕ) → length bytes < 8 → events_referred buffer (numbers_of bytes) ≡ []
events-none buffer bytes short = numbers_few (events_referred buffer) [] refl (λ n. refl) bytes short

-- the subscription at which the first reference points
abbrev pub first_at : (buffer bytes : List ℕ) → Subscription
first_at buffer bytes = subscription_at buffer (number_at bytes 0 4) (number_at bytes 4 4)

pub events-at : (place : ℕ) (buffer bytes : List ℕ) → 8 * place + 8 ≤ length bytes
    → drop place (events_referred buffer (numbers_of bytes)) ≡ first_at buffer (drop (8 * place) bytes) ∷ drop (place + 1) (events_referred buffer (numbers_of bytes))
events-at zero buffer bytes long =
    let more = events-more buffer bytes (omega (arith, long)) in
    more ∙ ap (λ (l : List Subscription). first_at buffer bytes ∷ l) (sym (ap (drop 1) more))
events-at (suc place) buffer bytes long =
    let more = events-more buffer bytes (omega (arith, long)) in
    let next : suc place + 1 ≡ suc (place + 1) = omega arith in
    let there : drop (8 * place) (drop 8 bytes) ≡ drop (8 * suc place) bytes = drop-drop (8 * place) 8 bytes ∙ ap (λ (n : ℕ). drop n bytes) (omega arith) in
    ap (drop (suc place)) more
    ∙ events-at place buffer (drop 8 bytes) (omega (arith, long, length-drop 8 bytes))
    ∙ ap₂ (λ (l : List ℕ) (behind : List Subscription). first_at buffer l ∷ behind) there (sym (ap (drop (suc (place + 1))) more) ∙ ap (λ (n : ℕ). drop n (events_referred buffer (numbers_of bytes))) (sym next))

pub events-count : (count : ℕ) (buffer bytes : List ℕ) → 8 * count ≤ length bytes → length bytes < 8 * (count + 1) → length (events_referred buffer (numbers_of bytes)) ≡ count
events-count zero buffer bytes long short = ap (λ (l : List Subscription). length l) (events-none buffer bytes (omega (arith, short)))
events-count (suc count) buffer bytes long short =
    omega (
      arith,
      ap (λ (l : List Subscription). length l) (events-more buffer bytes (omega (arith, long))),
      events-count count buffer (drop 8 bytes) (omega (arith, long, length-drop 8 bytes)) (omega (arith, short, length-drop 8 bytes)),
    )

pub events-length : (buffer bytes : List ℕ) → length (events_referred buffer (numbers_of bytes)) ≡ length bytes / 8
events-length buffer bytes = events-count (length bytes / 8) buffer bytes (omega arith) (omega arith)

pub place-fits : (buffer bytes : List ℕ) (place : ℕ) → place < length (events_referred buffer (numbers_of bytes)) → 8 * place + 8 ≤ length bytes
place-fits buffer bytes place within = omega (arith, within, events-length buffer bytes)

both-first : (a b : Option (List Pair)) → IsSome (both a b) → IsSome a
both-first None b some = some
both-first (Some pairs) b some = refl

both-second : (a b : Option (List Pair)) → IsSome (both a b) → IsSome b
both-second None b some = absurd (false≢true some)
both-second (Some pairs) None some = some
both-second (Some pairs) (Some more) some = refl

pub whole-at : (place : ℕ) (buffer bytes : List ℕ) → 8 * place + 8 ≤ length bytes → IsSome (pairs_referred buffer (numbers_of bytes)) → IsSome (pairs_at buffer (number_at (drop (8 * place) bytes) 0 4) (number_at (drop (8 * place) bytes) 4 4))
whole-at zero buffer bytes long whole =
    both-first (pairs_at buffer (number_at bytes 0 4) (number_at bytes 4 4)) (pairs_referred buffer (numbers_of (drop 8 bytes))) (subst IsSome (references_more buffer bytes (omega (arith, long))) whole)
whole-at (suc place) buffer bytes long whole =
    let rest = both-second (pairs_at buffer (number_at bytes 0 4) (number_at bytes 4 4)) (pairs_referred buffer (numbers_of (drop 8 bytes))) (subst IsSome (references_more buffer bytes (omega (arith, long))) whole) in
    let there : drop (8 * place) (drop 8 bytes) ≡ drop (8 * suc place) bytes = drop-drop (8 * place) 8 bytes ∙ ap (λ (n : ℕ). drop n bytes) (omega arith) in
    subst (λ (l : List ℕ). IsSome (pairs_at buffer (number_at l 0 4) (number_at l 4 4))) there (whole-at place buffer (drop 8 bytes) (omega (arith, long, length-drop 8 bytes)) rest)

-- ---- where the CIDs of a structure stand ----

pub range-is : (buffer : List ℕ) (offset size room : ℕ) (uuid : List ℕ) → uuid ≡ slice_range buffer offset (offset + 16) → offset + size ≤ length buffer → room ≡ 4 * number_at (slice_range buffer offset (offset + size)) 16 4 → 20 + room ≤ length (slice_range buffer offset (offset + size))
    → subscription_of_range buffer (record { uuid = uuid; start = offset + 20; end = offset + 20 + room }) ≡ subscription_at buffer offset size
range-is buffer offset size room uuid uuid_is within room_is fits =
    let structure : List ℕ = slice_range buffer offset (offset + size) in
    let long : length structure ≡ size = length-take-le (offset + size - offset) (drop offset buffer) (omega (arith, within, length-drop offset buffer)) ∙ omega arith in
    let front : slice_range structure 0 16 ≡ slice_range buffer offset (offset + 16) =
    slice-of_slice buffer offset (offset + size) 0 16 (omega arith) (omega (arith, fits, long)) ∙ ap (λ (n : ℕ). slice_range buffer n (offset + 16)) (omega arith) in
    let cids : slice_range structure 20 (20 + room) ≡ slice_range buffer (offset + 20) (offset + 20 + room) =
    slice-of_slice buffer offset (offset + size) 20 (20 + room) (omega arith) (omega (arith, fits, long)) ∙ ap (λ (n : ℕ). slice_range buffer (offset + 20) n) (omega arith) in
    ap₂ (λ (u c : List ℕ). subscription u (numbers_of c)) (uuid_is ∙ sym front) (sym cids ∙ ap (λ (n : ℕ). slice_range structure 20 (20 + n)) room_is)
  where
    subscription : List ℕ → List ℕ → Subscription
    subscription u c = record { uuid = u; cids = c }

pub range-pairs : (buffer : List ℕ) (offset size room : ℕ) (range : CidRange) → offset + size ≤ length buffer → room ≡ 4 * number_at (slice_range buffer offset (offset + size)) 16 4 → 20 + room ≤ length (slice_range buffer offset (offset + size))
    → subscription_of_range buffer range ≡ subscription_at buffer offset size → Some (pairs_of range.uuid (cids_in buffer range)) ≡ pairs_at buffer offset size
range-pairs buffer offset size room range within room_is fits is =
    ap (λ (s : Subscription). Some (pairs_of s.uuid s.cids)) is ∙ sym (at-some buffer offset size within ∙ structure-some (slice_range buffer offset (offset + size)) (omega (arith, room_is, fits)))

pub some-whole : (range : Option CidRange) (pairs_of_range : CidRange → List Pair) (pairs : Option (List Pair)) → option_map pairs_of_range range ≡ pairs → IsSome pairs → IsSome range
some-whole None pairs_of_range pairs is some = absurd (false≢true (subst IsSome (sym is) some))
some-whole (Some range) pairs_of_range pairs is some = refl

-- ---- pairs ----

at-whole : (buffer : List ℕ) (offset size : ℕ) → IsSome (pairs_at buffer offset size) → pairs_at buffer offset size ≡ Some (pairs_of (subscription_at buffer offset size).uuid (subscription_at buffer offset size).cids)
at-whole buffer offset size = by (nat_lt (length buffer) (offset + size)) (nat_lt (length (slice_range buffer offset (offset + size))) (20 + 4 * number_at (slice_range buffer offset (offset + size)) 16 4))
  where
    pairs : List Pair
    pairs = pairs_of (subscription_at buffer offset size).uuid (subscription_at buffer offset size).cids

    by : (past short : Bool) → IsSome (if past then None else if short then None else Some pairs) → (if past then None else if short then None else Some pairs) ≡ Some pairs
    by true short some = absurd (false≢true some)
    by false true some = absurd (false≢true some)
    by false false some = refl

pub pairs-whole : (buffer references : List ℕ) → IsSome (pairs_referred buffer references) → pairs_referred buffer references ≡ Some (pairs_in (events_referred buffer references))
pairs-whole buffer [] whole = refl
pairs-whole buffer (offset ∷ []) whole = refl
pairs-whole buffer (offset ∷ size ∷ references) whole =
    let first = at-whole buffer offset size (both-first (pairs_at buffer offset size) (pairs_referred buffer references) whole) in
    let rest = pairs-whole buffer references (both-second (pairs_at buffer offset size) (pairs_referred buffer references) whole) in
    ap₂ both first rest

abbrev pub single : (uuid : List ℕ) (cid : ℕ) → Pair
single uuid cid = (uuid, Some cid)

pub single-in : (uuid cids : List ℕ) (cid : ℕ) → Contains cids cid → Contains (map (single uuid) cids) (single uuid cid)
single-in uuid [] cid at = absurd (Contains-nil cid at)
single-in uuid (first ∷ cids) cid at =
    ⊎_elim
    (λ (is : first ≡ cid). (zero, omega arith, ap (single uuid) is))
    (λ (rest : Contains cids cid). Contains-cons (single uuid cid) (single uuid first) (map (single uuid) cids) (single-in uuid cids cid rest))
    (Contains-cons_cases cid first cids at)

pub pair-in : (uuid cids : List ℕ) (cid : ℕ) → Contains cids cid → Contains (pairs_of uuid cids) (single uuid cid)
pair-in uuid [] cid at = absurd (Contains-nil cid at)
pair-in uuid (first ∷ cids) cid at = single-in uuid (first ∷ cids) cid at
