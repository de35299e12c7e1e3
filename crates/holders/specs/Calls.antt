-- Holders stand for the calls that were made on them. A list of calls has the newest first; the grants that it
-- makes have the oldest first, as those that the history of a proxy makes.
use Rattle.std.specs.Prelude.{◌≡◌, ◌↔◌, ℕ, Bool, true, false, not, List, [], ◌∷◌, ◌++◌, filter, Contains}
use Rattle.std.specs.List.{AllByRecursion}
use Rattle.proxy_history.specs.ClientIds.{Grant, is_of}
use Rattle.holders.specs.Grants.{is_taken, releases, leaves}
use Rattle.holders.specs.Kept.{Ids}

pub data Call : Type 0 where
  Grants : (conn : ℕ) → (service : ℕ) → (cid : ℕ) → Call
  Releases : (conn : ℕ) → (service : ℕ) → (cid : ℕ) → Call
  Leaves : (conn : ℕ) → (time : ℕ) → Call
  Clears : Call

-- the newest grant is the last
abbrev pub granted_last : ℕ → ℕ → ℕ → List Grant → List Grant
granted_last conn service cid held = filter (λ g. not (is_of service cid g)) held ++ record { conn = conn; service = service; cid = cid } ∷ []

abbrev pub granted_last_unless : Bool → ℕ → ℕ → ℕ → List Grant → List Grant
granted_last_unless true conn service cid held = held
granted_last_unless false conn service cid held = granted_last conn service cid held

-- the ids that are held after these calls, in the order of granting
abbrev pub held_after : List Call → List Grant
held_after [] = []
held_after (Grants conn service cid ∷ past) = granted_last_unless (is_taken conn service cid (held_after past)) conn service cid (held_after past)
held_after (Releases conn service cid ∷ past) = releases conn service cid (held_after past)
held_after (Leaves conn time ∷ past) = leaves conn (held_after past)
held_after (Clears ∷ past) = []

-- no id twice
unfoldable pub IsOnce : List Grant → Type 0
IsOnce [] = Unit {0}
IsOnce (grant ∷ grants) = AllByRecursion (λ other. is_of grant.service grant.cid other ≡ false) grants × IsOnce grants

-- the same ids with the same holders, in whichever order
pub record TellTheSame (held grants : List Grant) : Type 0 where
  pub same : (grant : Grant) → Contains held grant ↔ Contains grants grant
  pub once : IsOnce held

abbrev pub StandsFor : List Call → Ids → Type 0
StandsFor calls ids = TellTheSame (held_after calls) ids.held
