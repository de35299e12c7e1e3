-- Writing the buffer of a list, one part after another.
use Rattle.std.specs.Prelude.{◌≡◌, ℕ, ◌+◌, ◌≤◌, Bool, bytes_eq, List, [], ◌∷◌, ◌++◌, length, take, drop}
use Rattle.std.specs.List.{flat_map, prefix_len}
use Rattle.kit_bytes.specs.Subscriptions.{Pair, Subscription, cids_of}

-- these bytes are put at a place, and all else is as before
pub record Puts (at : ℕ) (bytes old new : List ℕ) : Type 0 where
  pub fits : at + length bytes ≤ length old
  pub is : new ≡ take at old ++ (bytes ++ drop (at + length bytes) old)

abbrev pub cids_in : List Pair → List ℕ
cids_in pairs = flat_map (λ pair. cids_of pair.1) pairs

-- of pairs of a UUID and what else
abbrev pub first_uuid : {C : Type 0} → List (List ℕ × C) → List ℕ
first_uuid [] = []
first_uuid (pair ∷ pairs) = pair.0

-- the pair has this UUID
abbrev pub is_of : {C : Type 0} → (uuid : List ℕ) → List ℕ × C → Bool
is_of uuid pair = bytes_eq pair.0 uuid

-- how many pairs, from the first on, have its UUID
abbrev pub run_length : {C : Type 0} → List (List ℕ × C) → ℕ
run_length pairs = prefix_len (is_of (first_uuid pairs)) pairs

-- the subscription that pairs of one service are
abbrev pub subscription_in : List Pair → Subscription
subscription_in pairs = record { uuid = first_uuid pairs; cids = cids_in pairs }
