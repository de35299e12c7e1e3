-- A buffer is read as the list whose fields it has.
use Rattle.std.proofs.Common.{◌≡◌, ℕ, zero, suc, ◌+◌, ◌-◌, ◌*◌, ◌<◌, ◌≤◌, inl, inr, List, [], ◌∷◌, ◌++◌, length, take, drop, map, flat_map, slice_range, slice_index, Option, Some, None, refl, sym, ◌∙◌, ap, ap₂, subst, rules, arith}
use Rattle.std.proofs.lemmas.List.{take-append-drop, length-take-le, length-drop, length-map}
use Rattle.std.proofs.str.Laws.{order}
use Rattle.kit_bytes.specs.Numbers.{number_at}
use Rattle.kit_bytes.specs.Subscriptions.{Pair, Subscription, pairs_of}
use Rattle.mbim_fields.specs.Layout.{u32, in_place, structure as structure_of, Item}
use Rattle.mbim_fields.specs.Value.{Value, number, uuid_of, elements, members, list_of, values_of, count_of}
use Rattle.mbim_fields.specs.View.{layout_of}
use Rattle.mbim_fields.specs.Fields.{StandInRow, Stands, FieldsStand, Fields}
use Rattle.mbim_fields.proofs.Agreement.{slice-none}
use Rattle.mbim_fields.proofs.Readings.{list_of-values_of}
use Rattle.mbim_fields.proofs.RoundTrip.{At, At-inside, At-right, At-first, Some-same}
use Rattle.mbim_services.specs.Table.{event}
use Rattle.mbim_services.specs.SubscribeLists.{numbers_of, pairs_of_structure, pairs_at, both, pairs_referred, list_of_buffer, list_layout, subscription_value, IsListOf}
use Rattle.mbim_services.specs.Laws.{IsReadAs, ListsAreRead}
use Rattle.mbim_services.proofs.References.{references_more, references_none}

-- ---- slices and numbers in them ----

record SliceAt (whole : List ℕ) (at count : ℕ) : Type 0 where
  pub is : At whole at (slice_range whole at (at + count))
  pub long : length (slice_range whole at (at + count)) ≡ count

slice-at : (whole : List ℕ) (at count : ℕ) → at + count ≤ length whole → SliceAt whole at count
slice-at whole at count fits =
    let same : at + count - at ≡ count = omega arith in
    let slice : slice_range whole at (at + count) ≡ take count (drop at whole) = ap (λ (n : ℕ). take n (drop at whole)) same in
    let back : take count (drop at whole) ++ drop count (drop at whole) ≡ drop at whole = take-append-drop count (drop at whole) in
    let all : whole ≡ take at whole ++ (take count (drop at whole) ++ drop count (drop at whole)) = sym (ap (λ (l : List ℕ). take at whole ++ l) back ∙ take-append-drop at whole) in
    record {
      is = record { before = take at whole; behind = drop count (drop at whole); whole_is = all ∙ ap (λ (l : List ℕ). take at whole ++ (l ++ drop count (drop at whole))) (sym slice); place_is = sym (length-take-le at whole (omega (arith, fits))) };
      long = ap length slice ∙ length-take-le count (drop at whole) (omega (arith, fits, length-drop at whole));
    }

At-drop : (whole : List ℕ) (at count : ℕ) (bytes : List ℕ) → At whole at bytes → count ≤ length bytes → At whole (at + count) (drop count bytes)
At-drop whole at count bytes is long =
    let parts = subst (λ (l : List ℕ). At whole at l) (sym (take-append-drop count bytes)) is in
    subst (λ (n : ℕ). At whole (at + n) (drop count bytes)) (length-take-le count bytes long) (At-right whole at (take count bytes) (drop count bytes) parts)

index-at : (whole : List ℕ) (at : ℕ) (bytes : List ℕ) (i : ℕ) → At whole at bytes → i < length bytes → slice_index bytes i ≡ slice_index whole (at + i)
index-at whole at [] i is within = absurd (omega (arith, within))
index-at whole at (byte ∷ bytes) zero is within = let place : at ≡ at + 0 = omega arith in sym (At-first whole at byte bytes is) ∙ ap (slice_index whole) place
index-at whole at (byte ∷ bytes) (suc i) is within =
    let next : at + 1 + i ≡ at + suc i = omega arith in
    index-at whole (at + 1) bytes i (At-right whole at (byte ∷ []) bytes is) (omega (arith, within)) ∙ ap (slice_index whole) next

four-same : (xs ys : List ℕ) (i j : ℕ) → slice_index xs i ≡ slice_index ys j → slice_index xs (i + 1) ≡ slice_index ys (j + 1) → slice_index xs (i + 1 + 1) ≡ slice_index ys (j + 1 + 1)
    → slice_index xs (i + 1 + 1 + 1) ≡ slice_index ys (j + 1 + 1 + 1) → number_at xs i 4 ≡ number_at ys j 4
four-same xs ys i j a b c d = rw (a, b, c, d) refl

number-at : (whole : List ℕ) (at : ℕ) (bytes : List ℕ) (i place : ℕ) → At whole at bytes → i + 4 ≤ length bytes → at + i ≡ place → number_at bytes i 4 ≡ number_at whole place 4
number-at whole at bytes i place is within there =
    let second : at + (i + 1) ≡ place + 1 = omega (arith, there) in
    let third : at + (i + 1 + 1) ≡ place + 1 + 1 = omega (arith, there) in
    let fourth : at + (i + 1 + 1 + 1) ≡ place + 1 + 1 + 1 = omega (arith, there) in
    four-same bytes whole i place (index-at whole at bytes i is (omega (arith, within)) ∙ ap (slice_index whole) there) (index-at whole at bytes (i + 1) is (omega (arith, within)) ∙ ap (slice_index whole) second)
    (index-at whole at bytes (i + 1 + 1) is (omega (arith, within)) ∙ ap (slice_index whole) third) (index-at whole at bytes (i + 1 + 1 + 1) is (omega (arith, within)) ∙ ap (slice_index whole) fourth)

numbers-stand : (whole : List ℕ) (at : ℕ) (bytes : List ℕ) → At whole at bytes → StandInRow (Stands (in_place u32) whole) 4 (map number (numbers_of bytes)) at
numbers-stand whole at [] is = tt
numbers-stand whole at (a ∷ []) is = tt
numbers-stand whole at (a ∷ b ∷ []) is = tt
numbers-stand whole at (a ∷ b ∷ c ∷ []) is = tt
numbers-stand whole at (a ∷ b ∷ c ∷ d ∷ bytes) is =
    let inside = At-inside whole at (a ∷ b ∷ c ∷ d ∷ bytes) is in
    let here : number_at (a ∷ b ∷ c ∷ d ∷ bytes) 0 4 ≡ number_at whole at 4 = number-at whole at (a ∷ b ∷ c ∷ d ∷ bytes) 0 at is (omega arith) (omega arith) in
    (record { inside = omega (arith, inside); is = ap number here }, numbers-stand whole (at + 4) bytes (At-right whole at (a ∷ b ∷ c ∷ d ∷ []) bytes is))

numbers-count : (count : ℕ) (bytes : List ℕ) → length bytes ≡ 4 * count → length (numbers_of bytes) ≡ count
numbers-count count [] long = omega (arith, long)
numbers-count count (a ∷ []) long = absurd (omega (arith, long))
numbers-count count (a ∷ b ∷ []) long = absurd (omega (arith, long))
numbers-count count (a ∷ b ∷ c ∷ []) long = absurd (omega (arith, long))
numbers-count zero (a ∷ b ∷ c ∷ d ∷ bytes) long = absurd (omega (arith, long))
numbers-count (suc count) (a ∷ b ∷ c ∷ d ∷ bytes) long = omega (arith, numbers-count count bytes (omega (arith, long)))

-- ---- one subscription ----

abbrev event_item : Item
event_item = structure_of (layout_of event)

pub structure-some : (bytes : List ℕ) → 20 + 4 * number_at bytes 16 4 ≤ length bytes
    → pairs_of_structure bytes ≡ Some (pairs_of (slice_range bytes 0 16) (numbers_of (slice_range bytes 20 (20 + 4 * number_at bytes 16 4))))
structure-some bytes fits = search rules

structure-none : (bytes : List ℕ) → length bytes < 20 + 4 * number_at bytes 16 4 → pairs_of_structure bytes ≡ None
structure-none bytes past = search rules

pub at-some : (buffer : List ℕ) (offset size : ℕ) → offset + size ≤ length buffer → pairs_at buffer offset size ≡ pairs_of_structure (slice_range buffer offset (offset + size))
at-some buffer offset size fits = search rules

at-none : (buffer : List ℕ) (offset size : ℕ) → length buffer < offset + size → pairs_at buffer offset size ≡ None
at-none buffer offset size past = search rules

-- the fields of a structure that is whole
structure-fields : (bytes : List ℕ) (pairs : List Pair) → pairs_of_structure bytes ≡ Some pairs
    → (s : Subscription) × (pairs ≡ pairs_of s.uuid s.cids) × FieldsStand (layout_of event) bytes [] (uuid_of s.uuid ∷ number (length s.cids) ∷ elements (values_of (map number s.cids)) ∷ []) 0
structure-fields bytes pairs is = elim (order (length bytes) (20 + 4 * number_at bytes 16 4)) [
  | inl past ↦ absurd (let h = sym (structure-none bytes past) ∙ is in cc)
  | inr fits ↦
      let slice = slice-at bytes 20 (4 * number_at bytes 16 4) fits in
      let cids : List ℕ = numbers_of (slice_range bytes 20 (20 + 4 * number_at bytes 16 4)) in
      let count : length cids ≡ number_at bytes 16 4 = numbers-count (number_at bytes 16 4) _ slice.long in
      let listed : list_of (values_of (map number cids)) ≡ map number cids = list_of-values_of (map number cids) in
      let row = subst (λ (l : List Value). StandInRow (Stands (in_place u32) bytes) 4 l 20) (sym listed) (numbers-stand bytes 20 _ slice.is) in (
        record { uuid = slice_range bytes 0 16; cids = cids },
        Some-same _ _ _ is (structure-some bytes fits),
        (
          omega (arith, fits),
          record { inside = omega (arith, fits); is = refl },
          (
            omega (arith, fits),
            record { inside = omega (arith, fits); is = ap number count },
            (omega (arith, fits, count), (ap length listed ∙ length-map cids number, row), tt),
          ),
        ),
      )
]

subscription-stands : (buffer : List ℕ) (at : ℕ) (pairs : List Pair) → pairs_at buffer (number_at buffer at 4) (number_at buffer (at + 4) 4) ≡ Some pairs
    → (s : Subscription) × (pairs ≡ pairs_of s.uuid s.cids) × Stands event_item buffer (subscription_value s) at
subscription-stands buffer at pairs is =
    let offset = number_at buffer at 4 in
    let size = number_at buffer (at + 4) 4 in
    elim (order (length buffer) (offset + size)) [
      | inl past ↦ absurd (let h = sym (at-none buffer offset size past) ∙ is in cc)
      | inr fits ↦
          let f = structure-fields (slice_range buffer offset (offset + size)) pairs (sym (at-some buffer offset size fits) ∙ is) in
          (f.0, f.1, record { offset = offset; size = size; offset_is = refl; size_is = refl; inside = inr fits; holds = f.2 })
    ]

-- ---- all of them ----

both-some : (a b : Option (List Pair)) (pairs : List Pair) → both a b ≡ Some pairs → (front : List Pair) × (back : List Pair) × (a ≡ Some front) × (b ≡ Some back) × (pairs ≡ front ++ back)
both-some None b pairs is = absurd cc
both-some (Some front) None pairs is = absurd cc
both-some (Some front) (Some back) pairs is = (front, back, refl, refl, Some-same _ _ _ is refl)

record AllStand (buffer : List ℕ) (at count : ℕ) (pairs : List Pair) : Type 0 where
  pub subscriptions : List Subscription
  pub count_is : length subscriptions ≡ count
  pub pairs_are : pairs ≡ flat_map (λ s. pairs_of s.uuid s.cids) subscriptions
  pub stand : StandInRow (Stands event_item buffer) 8 (map subscription_value subscriptions) at

all-stand : (buffer bytes : List ℕ) (at count : ℕ) (pairs : List Pair) → At buffer at bytes → length bytes ≡ 8 * count → pairs_referred buffer (numbers_of bytes) ≡ Some pairs → AllStand buffer at count pairs
all-stand buffer bytes at zero pairs there long is =
    record { subscriptions = []; count_is = refl; pairs_are = Some-same _ _ _ is (references_none buffer bytes (omega (arith, long))); stand = tt }
all-stand buffer bytes at (suc count) pairs there long is =
    let parts = both-some _ _ pairs (sym (references_more buffer bytes (omega (arith, long))) ∙ is) in
    let offset = number-at buffer at bytes 0 at there (omega (arith, long)) (omega arith) in
    let size = number-at buffer at bytes 4 (at + 4) there (omega (arith, long)) refl in
    let here = subscription-stands buffer at parts.0 (sym (ap₂ (pairs_at buffer) offset size) ∙ parts.2) in
    let rest = all-stand buffer (drop 8 bytes) (at + 8) count parts.1 (At-drop buffer at 8 bytes there (omega (arith, long))) (omega (arith, long, length-drop 8 bytes)) parts.3 in
    record {
      subscriptions = here.0 ∷ rest.subscriptions;
      count_is = omega (arith, rest.count_is);
      pairs_are = parts.4 ∙ ap₂ (λ (a b : List Pair). a ++ b) here.1 rest.pairs_are;
      stand = (here.2, rest.stand);
    }

list-some : (buffer : List ℕ) → 4 + 8 * number_at buffer 0 4 ≤ length buffer → list_of_buffer buffer ≡ pairs_referred buffer (numbers_of (slice_range buffer 4 (4 + 8 * number_at buffer 0 4)))
list-some buffer fits = search rules

list-none : (buffer : List ℕ) → length buffer < 4 + 8 * number_at buffer 0 4 → list_of_buffer buffer ≡ None
list-none buffer past = search rules

list-fields : (buffer : List ℕ) (pairs : List Pair) → list_of_buffer buffer ≡ Some pairs → IsListOf buffer pairs
list-fields buffer pairs is = elim (order (length buffer) (4 + 8 * number_at buffer 0 4)) [
  | inl past ↦ absurd (let h = sym (list-none buffer past) ∙ is in cc)
  | inr fits ↦
      let slice = slice-at buffer 4 (8 * number_at buffer 0 4) fits in
      let all = all-stand buffer _ 4 (number_at buffer 0 4) pairs slice.is slice.long (sym (list-some buffer fits) ∙ is) in
      let values : List Value = map subscription_value all.subscriptions in
      let listed : list_of (values_of values) ≡ values = list_of-values_of values in
      let row = subst (λ (l : List Value). StandInRow (Stands event_item buffer) 8 l 4) (sym listed) all.stand in
      record {
        subscriptions = all.subscriptions;
        fields = (
          omega (arith, fits),
          record { inside = omega (arith, fits); is = ap number all.count_is },
          (omega (arith, fits, all.count_is), (ap length listed ∙ length-map all.subscriptions subscription_value, row), tt),
        );
        pairs_are = all.pairs_are;
      }
]

-- ---- what has fields is read ----

fields-long : (bytes : List ℕ) (values : List Value) → FieldsStand (layout_of event) bytes [] values 0 → 20 + 4 * number_at bytes 16 4 ≤ length bytes
fields-long bytes [] f = absurd f
fields-long bytes (uuid ∷ []) f = absurd f.2
fields-long bytes (uuid ∷ count ∷ []) f = absurd f.2.2
fields-long bytes (uuid ∷ count ∷ cids ∷ values) f = let is = ap count_of f.2.1.is in omega (arith, f.2.2.0, is)

subscription-some : (buffer : List ℕ) (at : ℕ) (value : Value) → Stands event_item buffer value at → (pairs : List Pair) × (pairs_at buffer (number_at buffer at 4) (number_at buffer (at + 4) 4) ≡ Some pairs)
subscription-some buffer at (members values) points =
    let offset = number_at buffer at 4 in
    let size = number_at buffer (at + 4) 4 in
    let bytes = slice_range buffer offset (offset + size) in
    let holds : FieldsStand (layout_of event) bytes [] (list_of values) 0 = rw (points.offset_is, points.size_is) at points.holds in
    let long = fields-long bytes (list_of values) holds in
    let fits : offset + size ≤ length buffer = elim points.inside [
      | inl none ↦ absurd (let nothing = ap length (slice-none buffer offset size (sym points.size_is ∙ none)) in omega (arith, long, nothing))
      | inr fits ↦ omega (arith, points.offset_is, points.size_is, fits)
    ] in
    (_, at-some buffer offset size fits ∙ structure-some bytes long)
subscription-some buffer at _ points = absurd points

all-some : (buffer bytes : List ℕ) (at : ℕ) (values : List Value) → At buffer at bytes → length bytes ≡ 8 * length values → StandInRow (Stands event_item buffer) 8 values at
    → (pairs : List Pair) × (pairs_referred buffer (numbers_of bytes) ≡ Some pairs)
all-some buffer bytes at [] there long row = ([], references_none buffer bytes (omega (arith, long)))
all-some buffer bytes at (value ∷ values) there long row =
    let here = subscription-some buffer at value row.0 in
    let rest = all-some buffer (drop 8 bytes) (at + 8) values (At-drop buffer at 8 bytes there (omega (arith, long))) (omega (arith, long, length-drop 8 bytes)) row.1 in
    let offset = number-at buffer at bytes 0 at there (omega (arith, long)) (omega arith) in
    let size = number-at buffer at bytes 4 (at + 4) there (omega (arith, long)) refl in
    (here.0 ++ rest.0, references_more buffer bytes (omega (arith, long)) ∙ ap₂ both (ap₂ (pairs_at buffer) offset size ∙ here.1) rest.1)

list-there : (buffer : List ℕ) (values : List Value) → Fields list_layout values buffer → (pairs : List Pair) × (list_of_buffer buffer ≡ Some pairs)
list-there buffer [] f = absurd f
list-there buffer (count ∷ []) f = absurd f.2
list-there buffer (count ∷ elements events ∷ values) f =
    let is = ap count_of f.1.is in
    let fits : 4 + 8 * number_at buffer 0 4 ≤ length buffer = omega (arith, f.2.0, is) in
    let slice = slice-at buffer 4 (8 * number_at buffer 0 4) fits in
    let all = all-some buffer _ 4 (list_of events) slice.is (omega (arith, slice.long, f.2.1.0, is)) f.2.1.1 in
    (all.0, list-some buffer fits ∙ all.1)
list-there buffer (count ∷ _ ∷ values) f = absurd f.2.1

-- ---- both ways ----

read-as : (buffer : List ℕ) (list : Option (List Pair)) → list_of_buffer buffer ≡ list → IsReadAs buffer list
read-as buffer (Some pairs) is = list-fields buffer pairs is
read-as buffer None is = λ values f. let there = list-there buffer values f in let h = sym is ∙ there.1 in absurd cc

pub read : ListsAreRead
read buffer = read-as buffer (list_of_buffer buffer) refl
