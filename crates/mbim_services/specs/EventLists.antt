-- The events of a list's buffer, by their places.
use Rattle.std.specs.Prelude.{◌≡◌, ◌⊎◌, ℕ, ◌+◌, ◌*◌, ◌≤◌, List, [], ◌∷◌, length, drop, slice_range, IsSome}
use Rattle.std.specs.List.{flat_map, Contains}
use Rattle.kit_bytes.specs.Numbers.{number_at}
use Rattle.kit_bytes.specs.Subscriptions.{Pair, Subscription, pairs_of}
use Rattle.mbim_services.specs.SubscribeLists.{numbers_of, pairs_referred}
use Rattle.mbim_services.specs.declared.events.CidRange.{CidRange}
use Rattle.mbim_services.specs.declared.event_list.EventList.TheInside.{Inside}

-- ---- CIDs, by where they stand ----

-- whole CIDs stand there
pub record IsRange (buffer : List ℕ) (range : CidRange) : Type 0 where
  pub count : ℕ
  pub long : range.end ≡ range.start + 4 * count
  pub within : range.end ≤ length buffer

abbrev pub cids_in : (buffer : List ℕ) → CidRange → List ℕ
cids_in buffer range = numbers_of (slice_range buffer range.start range.end)

abbrev pub subscription_of_range : (buffer : List ℕ) → CidRange → Subscription
subscription_of_range buffer range = record { uuid = range.uuid; cids = cids_in buffer range }

-- what is left of the CIDs of an event: each of the others is one of another event of the service
pub record Leaves (buffer : List ℕ) (range other left : CidRange) : Type 0 where
  pub service : left.uuid ≡ range.uuid
  pub stands : IsRange buffer left
  pub within : (cid : ℕ) → Contains (cids_in buffer left) cid → Contains (cids_in buffer range) cid
  pub others : (cid : ℕ) → Contains (cids_in buffer range) cid → Contains (cids_in buffer left) cid ⊎ ((other.uuid ≡ range.uuid) × Contains (cids_in buffer other) cid)

-- ---- events ----

-- of a structure that has its CIDs whole
abbrev pub subscription_of_structure : List ℕ → Subscription
subscription_of_structure structure =
    record { uuid = slice_range structure 0 16; cids = numbers_of (slice_range structure 20 (20 + 4 * number_at structure 16 4)) }

abbrev pub subscription_at : (buffer : List ℕ) → (offset size : ℕ) → Subscription
subscription_at buffer offset size = subscription_of_structure (slice_range buffer offset (offset + size))

-- at which the references point, each of which is an offset and a size
abbrev pub events_referred : (buffer : List ℕ) → (references : List ℕ) → List Subscription
events_referred buffer (offset ∷ size ∷ references) = subscription_at buffer offset size ∷ events_referred buffer references
events_referred buffer _ = []

abbrev pub events_in : Inside → List Subscription
events_in e = events_referred e.buffer.now (numbers_of e.references.now)

-- each reference points at a whole structure
abbrev pub AreWhole : Inside → Type 0
AreWhole e = IsSome (pairs_referred e.buffer.now (numbers_of e.references.now))

abbrev pub pairs_in : List Subscription → List Pair
pairs_in events = flat_map (λ event. pairs_of event.uuid event.cids) events

-- the event of a place has this service and these CIDs
abbrev pub IsEventAt : List Subscription → (place : ℕ) → (uuid cids : List ℕ) → Type 0
IsEventAt events place uuid cids = drop place events ≡ record { uuid = uuid; cids = cids } ∷ drop (place + 1) events
