-- The client ids whose holders went, and what each call makes of all ids. The ids that are kept stand in their order, as the grants do.
use Rattle.std.specs.Prelude.{◌≡◌, ◌-◌, ℕ, Bool, true, false, not, ◌&&◌, ◌||◌, ◌==◌, nat_lt, nat_le, if◌then◌else◌, List, [], ◌∷◌, ◌++◌, filter, Option, Some, None, Contains}
use Rattle.proxy_history.specs.ClientIds.{Grant, KeptId}
use Rattle.holders.specs.Grants.{granted, is_taken, releases, leaves}

pub record Ids : Type 0 where
  pub held : List Grant
  pub kept : List KeptId

abbrev pub is_kept_of : ℕ → ℕ → KeptId → Bool
is_kept_of service cid k = k.service == service && (k.cid == cid)

-- the kept id stands before this one, or behind it: service first, then client id
abbrev pub is_kept_before : ℕ → ℕ → KeptId → Bool
is_kept_before service cid k = nat_lt k.service service || (k.service == service && nat_lt k.cid cid)

abbrev pub is_kept_behind : ℕ → ℕ → KeptId → Bool
is_kept_behind service cid k = nat_lt service k.service || (service == k.service && nat_lt cid k.cid)

-- since when the id is kept
abbrev pub since_in : ℕ → ℕ → List KeptId → Option ℕ
since_in service cid [] = None
since_in service cid (k ∷ kept) = if is_kept_of service cid k then Some k.since else since_in service cid kept

-- ---- what each call makes of the ids ----

-- the id is kept since this time
abbrev pub kept_from : ℕ → Grant → List KeptId → List KeptId
kept_from time g kept =
    filter (is_kept_before g.service g.cid) kept ++ record { service = g.service; cid = g.cid; since = time } ∷ filter (is_kept_behind g.service g.cid) kept

-- so is each of these
abbrev pub all_kept_from : ℕ → List Grant → List KeptId → List KeptId
all_kept_from time [] kept = kept
all_kept_from time (g ∷ grants) kept = all_kept_from time grants (kept_from time g kept)

-- the ids of the connection are kept since this time, and nobody holds them
abbrev pub left_at : ℕ → ℕ → Ids → Ids
left_at conn time ids = record { held = leaves conn ids.held; kept = all_kept_from time (filter (λ g. conn == g.conn) ids.held) ids.kept }

abbrev pub kept_without : ℕ → ℕ → List KeptId → List KeptId
kept_without service cid kept = filter (λ k. not (is_kept_of service cid k)) kept

abbrev pub held_unless : Bool → ℕ → ℕ → ℕ → Ids → Ids
held_unless true conn service cid ids = ids
held_unless false conn service cid ids = record { held = granted conn service cid ids.held; kept = kept_without service cid ids.kept }

-- an id that is held is kept no more; one that another connection holds isn't granted, and nothing changes
abbrev pub held_by : ℕ → ℕ → ℕ → Ids → Ids
held_by conn service cid ids = held_unless (is_taken conn service cid ids.held) conn service cid ids

abbrev pub freed_by : ℕ → ℕ → ℕ → Ids → Ids
freed_by conn service cid ids = record { held = releases conn service cid ids.held; kept = ids.kept }

-- ---- which ids are due ----

-- the id is kept for so long
abbrev pub is_due : (after time : ℕ) → KeptId → Bool
is_due after time k = nat_le after (time - k.since)

-- of those that are due none stands before this one
pub record IsFirstDue (after time : ℕ) (kept : List KeptId) (service cid : ℕ) : Type 0 where
  pub since : ℕ
  pub at : Contains kept (record { service = service; cid = cid; since = since })
  pub due : is_due after time (record { service = service; cid = cid; since = since }) ≡ true
  pub first : (k : KeptId) → Contains kept k → is_due after time k ≡ true → is_kept_before service cid k ≡ false

-- the first id that is due, or none where none is
abbrev pub FirstDue : (after time : ℕ) → List KeptId → Option (ℕ × ℕ) → Type 0
FirstDue after time kept None = (k : KeptId) → Contains kept k → is_due after time k ≡ false
FirstDue after time kept (Some id) = IsFirstDue after time kept id.0 id.1
