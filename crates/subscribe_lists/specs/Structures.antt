-- The events of a list by where their structures stand in its buffer.
use Rattle.std.specs.Prelude.{◌≡◌, ◌⊎◌, ℕ, ◌+◌, ◌*◌, ◌≤◌, List, [], ◌∷◌, length, slice_range, map}
use Rattle.std.specs.List.{Contains}
use Rattle.kit_bytes.specs.Numbers.{number_at}
use Rattle.kit_bytes.specs.Subscriptions.{Subscription}
use Rattle.mbim_services.specs.SubscribeLists.{numbers_of}
use Rattle.subscribe_lists.specs.declared.sweep.Stretch.{Stretch}

-- of references, each of which is an offset and a size
abbrev pub offsets : (references : List ℕ) → List ℕ
offsets (offset ∷ size ∷ references) = offset ∷ offsets references
offsets _ = []

-- behind the structure of an offset
abbrev pub end_at : (buffer : List ℕ) → (offset : ℕ) → ℕ
end_at buffer offset = offset + 20 + 4 * number_at buffer (offset + 16) 4

abbrev pub event_at : (buffer : List ℕ) → (offset : ℕ) → Subscription
event_at buffer offset = record { uuid = slice_range buffer offset (offset + 16); cids = numbers_of (slice_range buffer (offset + 20) (end_at buffer offset)) }

abbrev pub IsWholeAt : (buffer : List ℕ) → (offset : ℕ) → Type 0
IsWholeAt buffer offset = end_at buffer offset ≤ length buffer

-- the events of the offsets that stand second in these pairs
abbrev pub events_at : (buffer : List ℕ) → (order : List (ℕ × ℕ)) → List Subscription
events_at buffer order = map (λ it. event_at buffer it.1) order

-- ---- CIDs, by where they stand ----

-- whole CIDs stand there
pub record IsWhole (buffer : List ℕ) (stretch : Stretch) : Type 0 where
  pub count : ℕ
  pub long : stretch.end ≡ stretch.start + 4 * count
  pub within : stretch.end ≤ length buffer

abbrev pub cids_in : (buffer : List ℕ) → Stretch → List ℕ
cids_in buffer stretch = numbers_of (slice_range buffer stretch.start stretch.end)

-- what is left of CIDs: each that isn't is one of the other stretch, of the same service
pub record Leaves (buffer : List ℕ) (stretch other left : Stretch) : Type 0 where
  pub service : left.uuid ≡ stretch.uuid
  pub whole : IsWhole buffer left
  pub within : (cid : ℕ) → Contains (cids_in buffer left) cid → Contains (cids_in buffer stretch) cid
  pub others : (cid : ℕ) → Contains (cids_in buffer stretch) cid → Contains (cids_in buffer left) cid ⊎ ((other.uuid ≡ stretch.uuid) × Contains (cids_in buffer other) cid)
