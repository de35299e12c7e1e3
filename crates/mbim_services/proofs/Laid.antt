-- The buffer of a list is the encoding of its subscriptions.
use Rattle.std.proofs.Common.{◌≡◌, ◌≢◌, ℕ, ◌+◌, ◌-◌, ◌*◌, ◌%◌, ◌^◌, ◌<◌, ◌≤◌, inl, inr, List, [], ◌∷◌, ◌++◌, length, map, flat_map, bytes_eq, Some, None, refl, sym, ◌∙◌, ap, ap₂, subst, arith, append_assoc, length-append}
use Rattle.std.proofs.lemmas.List.{append-nil, length-map}
use Rattle.std.proofs.lemmas.Slice.Eq.{bytes_eq-Decides}
use Rattle.std.specs.List.{AllByRecursion}
use Rattle.kit_bytes.specs.Subscriptions.{Pair, Subscription, subscription_of, in_front, by_service}
use Rattle.mbim_fields.specs.Layout.{u32, in_place, structure as structure_of, Item}
use Rattle.mbim_fields.specs.Value.{number, uuid_of, elements, values_of}
use Rattle.mbim_fields.specs.View.{layout_of}
use Rattle.kit_bytes.specs.Numbers.{number_bytes}
use Rattle.mbim_fields.specs.Canon.{Laid, nothing, add, point, lay_each, lay_item, lay_fields, rooms, canon}
use Rattle.mbim_fields.proofs.Readings.{list_of-values_of}
use Rattle.mbim_fields.proofs.RoundTrip.{number_in-is, octets_in-is}
use Rattle.mbim_fields.proofs.Writings.{counted_list-is}
use Rattle.mbim_fields.proofs.Agreement.{true_or}
use Rattle.mbim_services.specs.Table.{event}
use Rattle.mbim_services.specs.SubscribeLists.{structure, references, buffer_with, list_layout, subscription_value, list_values, IsPair}
use Rattle.mbim_services.specs.Laws.{ListsAreWritten}
use Rattle.mbim_services.proofs.Runs.{structure-length, references-length, joined, apart}

abbrev event_item : Item
event_item = structure_of (layout_of event)

-- ---- what is written can be ----

abbrev AreSmall : List ℕ → Type 0
AreSmall [] = Unit {0}
AreSmall (n ∷ numbers) = (n < 2 ^ 32) × AreSmall numbers

record IsWritable (s : Subscription) : Type 0 where
  pub uuid : length s.uuid ≡ 16
  pub cids : AreSmall s.cids

abbrev AreWritable : List Subscription → Type 0
AreWritable [] = Unit {0}
AreWritable (s ∷ others) = IsWritable s × AreWritable others

-- ---- one subscription ----

numbers-laid : (begin : ℕ) (laid : Laid) (numbers : List ℕ) → AreSmall numbers → lay_each (lay_item (in_place u32) begin) laid (map number numbers) ≡ Some (add laid (flat_map (number_bytes 4) numbers))
numbers-laid begin laid [] small = ap (λ (l : List ℕ). Some (record { front = l; back = laid.back })) (sym (append-nil laid.front))
numbers-laid begin laid (n ∷ numbers) small =
    let more = numbers-laid begin (add laid (number_bytes 4 n)) numbers small.1 in
    rw (number_in-is 4 n small.0) (more ∙ ap (λ (l : List ℕ). Some (record { front = l; back = laid.back })) (append_assoc laid.front (number_bytes 4 n) (flat_map (number_bytes 4) numbers)))

structure-laid : (begin : ℕ) (s : Subscription) → IsWritable s → length s.cids < 2 ^ 32
    → lay_fields (layout_of event) begin nothing [] (uuid_of s.uuid ∷ number (length s.cids) ∷ elements (values_of (map number s.cids)) ∷ []) ≡ Some (record { front = structure s; back = [] })
structure-laid begin s writable few =
    let listed = list_of-values_of (map number s.cids) in
    let count = counted_list-is (length s.cids) (values_of (map number s.cids)) (ap length listed ∙ length-map s.cids number) in
    let laid = numbers-laid begin (record { front = s.uuid ++ number_bytes 4 (length s.cids); back = [] }) s.cids writable.cids in
    rw (octets_in-is 16 s.uuid writable.uuid, number_in-is 4 (length s.cids) few, count, listed, laid) refl

structure-padded : (s : Subscription) → IsWritable s → (4 - length (structure s) % 4) % 4 ≡ 0
structure-padded s writable = omega (arith, structure-length s, writable.uuid)

point-some : (begin : ℕ) (laid : Laid) (bytes : List ℕ) → 1 ≤ length bytes → begin + length laid.back < 2 ^ 32 → length bytes < 2 ^ 32 → (4 - length bytes % 4) % 4 ≡ 0
    → point begin laid bytes ≡ Some (record { front = (laid.front ++ number_bytes 4 (begin + length laid.back)) ++ number_bytes 4 (length bytes); back = laid.back ++ bytes })
point-some begin laid [] some place size whole = absurd (omega (arith, some))
point-some begin laid (byte ∷ bytes) some place size whole =
    rw (number_in-is 4 (begin + length laid.back) place, number_in-is 4 (length (byte ∷ bytes)) size, whole)
    (ap (λ (l : List ℕ). Some (record { front = (laid.front ++ number_bytes 4 (begin + length laid.back)) ++ number_bytes 4 (length (byte ∷ bytes)); back = l })) (append-nil (laid.back ++ (byte ∷ bytes))))

item-laid : (begin : ℕ) (laid : Laid) (s : Subscription) → IsWritable s → begin + length laid.back + length (structure s) < 2 ^ 32
    → lay_item event_item begin laid (subscription_value s) ≡ Some (record { front = (laid.front ++ number_bytes 4 (begin + length laid.back)) ++ number_bytes 4 (length (structure s)); back = laid.back ++ structure s })
item-laid begin laid s writable small =
    let long = structure-length s in
    let inner = structure-laid (rooms (layout_of event) [] (uuid_of s.uuid ∷ number (length s.cids) ∷ elements (values_of (map number s.cids)) ∷ [])) s writable (omega (arith, small, long)) in
    rw (inner, append-nil (structure s)) (point-some begin laid (structure s) (omega (arith, long, writable.uuid)) (omega (arith, small)) (omega (arith, small)) (structure-padded s writable))

-- ---- all of them ----

all-laid : (begin : ℕ) (laid : Laid) (subscriptions : List Subscription) → AreWritable subscriptions → begin + length laid.back + length (flat_map structure subscriptions) < 2 ^ 32
    → lay_each (lay_item event_item begin) laid (map subscription_value subscriptions)
    ≡ Some (record { front = laid.front ++ references (begin + length laid.back) subscriptions; back = laid.back ++ flat_map structure subscriptions })
all-laid begin laid [] writable small = ap₂ (λ (f b : List ℕ). Some (record { front = f; back = b })) (sym (append-nil laid.front)) (sym (append-nil laid.back))
all-laid begin laid (s ∷ others) writable small =
    let place = begin + length laid.back in
    let front = (laid.front ++ number_bytes 4 place) ++ number_bytes 4 (length (structure s)) in
    let back = laid.back ++ structure s in
    let next : Laid = record { front = front; back = back } in
    let first = item-laid begin laid s writable.0 (omega (arith, small, length-append (structure s) (flat_map structure others))) in
    let next_place : begin + length back ≡ place + length (structure s) = omega (arith, length-append laid.back (structure s)) in
    let rest = all-laid begin next others writable.1 (omega (arith, small, next_place, length-append (structure s) (flat_map structure others))) in
    let front_is : front ++ references (begin + length back) others ≡ laid.front ++ references place (s ∷ others) =
    ap (λ (n : ℕ). front ++ references n others) next_place
    ∙ append_assoc (laid.front ++ number_bytes 4 place) (number_bytes 4 (length (structure s))) (references (place + length (structure s)) others)
    ∙ append_assoc laid.front (number_bytes 4 place) (number_bytes 4 (length (structure s)) ++ references (place + length (structure s)) others)
    ∙ ap (λ (l : List ℕ). laid.front ++ l) (sym (append_assoc (number_bytes 4 place) (number_bytes 4 (length (structure s))) (references (place + length (structure s)) others))) in
    rw first (rest ∙ ap₂ (λ (f b : List ℕ). Some (record { front = f; back = b })) front_is (append_assoc laid.back (structure s) (flat_map structure others)))

list-laid : (subscriptions : List Subscription) → AreWritable subscriptions → length (buffer_with subscriptions) < 2 ^ 32 → canon list_layout (list_values subscriptions) ≡ Some (buffer_with subscriptions)
list-laid subscriptions writable small =
    let count = length subscriptions in
    let begin = rooms list_layout [] (list_values subscriptions) in
    let values = map subscription_value subscriptions in
    let structures = flat_map structure subscriptions in
    let place : begin + 0 ≡ 4 + 8 * count = omega arith in
    let places_long = references-length (4 + 8 * count) subscriptions in
    let long : begin + 0 + length structures < 2 ^ 32 = omega (arith, small, places_long, length-append (number_bytes 4 count ++ references (4 + 8 * count) subscriptions) structures, length-append (number_bytes 4 count) (references (4 + 8 * count) subscriptions)) in
    let few : count < 2 ^ 32 = omega (arith, long) in
    let listed = list_of-values_of values in
    let counted = counted_list-is count (values_of values) (ap length listed ∙ length-map subscriptions subscription_value) in
    let all = all-laid begin (record { front = number_bytes 4 count; back = [] }) subscriptions writable long in
    rw (number_in-is 4 count few, counted, listed, all) (ap (λ (n : ℕ). Some ((number_bytes 4 count ++ references n subscriptions) ++ structures)) place)

-- ---- the subscriptions of pairs ----

small-append : (a b : List ℕ) → AreSmall a → AreSmall b → AreSmall (a ++ b)
small-append [] b first second = second
small-append (n ∷ a) b first second = (first.0, small-append a b first.1 second)

pair-writable : (pair : Pair) → IsPair pair → IsWritable (subscription_of pair)
pair-writable (uuid, None) is = record { uuid = is; cids = tt }
pair-writable (uuid, Some cid) is = record { uuid = is.0; cids = (is.1, tt) }

front-writable : (s : Subscription) (others : List Subscription) → IsWritable s → AreWritable others → AreWritable (in_front s others)
front-writable s [] writable all = (writable, tt)
front-writable s (first ∷ others) writable all = elim (true_or (bytes_eq first.uuid s.uuid)) [
  | inl eq ↦
      let same = (bytes_eq-Decides first.uuid s.uuid).0 eq in
      subst AreWritable (sym (joined s first others same)) (record { uuid = all.0.uuid; cids = small-append s.cids first.cids writable.cids all.0.cids }, all.1)
  | inr not ↦
      let differs : first.uuid ≢ s.uuid = λ same. (let h = sym not ∙ (bytes_eq-Decides first.uuid s.uuid).1 same in absurd cc) in
      subst AreWritable (sym (apart s first others differs)) (writable, (all.0, all.1))
]

pairs-writable : (list : List Pair) → AllByRecursion IsPair list → AreWritable (by_service list)
pairs-writable [] are = tt
pairs-writable (pair ∷ list) are = front-writable (subscription_of pair) (by_service list) (pair-writable pair are.0) (pairs-writable list are.1)

pub written : ListsAreWritten
written list are small = list-laid (by_service list) (pairs-writable list are) small
