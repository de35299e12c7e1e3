-- The buffer of a list of subscriptions: how many services, a reference to a structure for each, and the structures: a UUID and its CIDs, none for all of them.
-- Source: the USB-IF MBIM specification 1.0, MBIM_DEVICE_SERVICE_SUBSCRIBE_LIST and MBIM_EVENT_ENTRY.
use Rattle.std.specs.Prelude.{◌≡◌, Bool, ℕ, ◌+◌, ◌*◌, ◌^◌, ◌<◌, nat_lt, List, [], ◌∷◌, ◌++◌, length, slice_range, map, Option, Some, None, if◌then◌else◌}
use Rattle.std.specs.List.{flat_map}
use Rattle.std.specs.Ordering.{is_eq}
use Rattle.std.specs.Cmp.Lexicographic.{slice_cmp}
use Rattle.kit_bytes.specs.Numbers.{number_at, number_bytes}
use Rattle.kit_bytes.specs.Subscriptions.{Pair, Subscription, by_service, pairs_of, pair_cmp}
use Rattle.mbim_fields.specs.Value.{Value, number, uuid_of, elements, members, values_of}
use Rattle.mbim_fields.specs.View.{layout_of}
use Rattle.mbim_fields.specs.Layout.{Layout}
use Rattle.mbim_fields.specs.Fields.{Fields}
use Rattle.mbim_services.specs.Table.{events}

-- ---- writing ----

abbrev pub structure : Subscription → List ℕ
structure s = s.uuid ++ number_bytes 4 (length s.cids) ++ flat_map (number_bytes 4) s.cids

-- where each structure stands, from this place on, and how many bytes it has
abbrev pub references : (place : ℕ) → List Subscription → List ℕ
references place [] = []
references place (s ∷ others) = number_bytes 4 place ++ number_bytes 4 (length (structure s)) ++ references (place + length (structure s)) others

abbrev pub buffer_with : List Subscription → List ℕ
buffer_with subscriptions = number_bytes 4 (length subscriptions) ++ references (4 + 8 * length subscriptions) subscriptions ++ flat_map structure subscriptions

-- the buffer of a list in normal form
abbrev pub list_buffer : List Pair → List ℕ
list_buffer list = buffer_with (by_service list)

-- ---- reading: the structures may stand in any order, overlap, and leave bytes between them, as long as each lies in the buffer ----

-- the whole numbers that bytes spell one after another
abbrev pub numbers_of : List ℕ → List ℕ
numbers_of (a ∷ b ∷ c ∷ d ∷ bytes) = number_at (a ∷ b ∷ c ∷ d ∷ []) 0 4 ∷ numbers_of bytes
numbers_of _ = []

-- the pairs of a structure that has its CIDs whole
abbrev pub pairs_of_structure : List ℕ → Option (List Pair)
pairs_of_structure structure =
    if nat_lt (length structure) (20 + 4 * number_at structure 16 4) then None
    else Some (pairs_of (slice_range structure 0 16) (numbers_of (slice_range structure 20 (20 + 4 * number_at structure 16 4))))

abbrev pub pairs_at : (buffer : List ℕ) → (offset size : ℕ) → Option (List Pair)
pairs_at buffer offset size = if nat_lt (length buffer) (offset + size) then None else pairs_of_structure (slice_range buffer offset (offset + size))

abbrev pub both : Option (List Pair) → Option (List Pair) → Option (List Pair)
both None more = None
both (Some pairs) None = None
both (Some pairs) (Some more) = Some (pairs ++ more)

-- of all references, each of which is an offset and a size
abbrev pub pairs_referred : (buffer : List ℕ) → (references : List ℕ) → Option (List Pair)
pairs_referred buffer (offset ∷ size ∷ references) = both (pairs_at buffer offset size) (pairs_referred buffer references)
pairs_referred buffer _ = Some []

-- the pairs that a buffer spells, if it spells any list
abbrev pub list_of_buffer : List ℕ → Option (List Pair)
list_of_buffer buffer =
    if nat_lt (length buffer) (4 + 8 * number_at buffer 0 4) then None
    else pairs_referred buffer (numbers_of (slice_range buffer 4 (4 + 8 * number_at buffer 0 4)))

-- ---- the same as the fields of the table's layout ----

abbrev pub list_layout : Layout
list_layout = layout_of events

abbrev pub subscription_value : Subscription → Value
subscription_value s = members (values_of (uuid_of s.uuid ∷ number (length s.cids) ∷ elements (values_of (map number s.cids)) ∷ []))

abbrev pub list_values : List Subscription → List Value
list_values subscriptions = number (length subscriptions) ∷ elements (values_of (map subscription_value subscriptions)) ∷ []

-- the buffer has the fields of subscriptions with these pairs
pub record IsListOf (buffer : List ℕ) (pairs : List Pair) : Type 0 where
  pub subscriptions : List Subscription
  pub fields : Fields list_layout (list_values subscriptions) buffer
  pub pairs_are : pairs ≡ flat_map (λ s. pairs_of s.uuid s.cids) subscriptions

-- what the types of pairs say of them
abbrev pub IsPair : Pair → Type 0
IsPair (uuid, None) = length uuid ≡ 16
IsPair (uuid, Some cid) = (length uuid ≡ 16) × (cid < 2 ^ 32)

-- ---- lists ----

abbrev pub is_same_list : List Pair → List Pair → Bool
is_same_list one other = is_eq (slice_cmp pair_cmp one other)
