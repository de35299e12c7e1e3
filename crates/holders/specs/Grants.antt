-- Which connection holds which client id, and what each call makes of it. The grants stand in the order of their ids.
use Rattle.std.specs.Prelude.{◌≡◌, ℕ, ◌<◌, ◌≤◌, Bool, true, not, ◌&&◌, ◌||◌, ◌==◌, nat_lt, List, ◌∷◌, ◌++◌, length, filter, slice_index_or}
use Rattle.std.specs.List.{AllByRecursion, AllWithin}
use Rattle.kit_bytes.specs.Sorted.{IsInOrder}
use Rattle.proxy_history.specs.ClientIds.{Grant, is_of, holder_in, is_other}

-- the id of the grant stands before this one: service first, then client id
abbrev pub is_before : ℕ → ℕ → Grant → Bool
is_before service cid grant = nat_lt grant.service service || (grant.service == service && nat_lt grant.cid cid)

abbrev pub is_behind : ℕ → ℕ → Grant → Bool
is_behind service cid grant = nat_lt service grant.service || (service == grant.service && nat_lt cid grant.cid)

-- the other grant's id stands behind this one's
abbrev pub IsAhead : Grant → Grant → Type 0
IsAhead grant other = is_behind grant.service grant.cid other ≡ true

-- each id once, and in order
abbrev pub AreInOrder : List Grant → Type 0
AreInOrder grants = IsInOrder IsAhead grants

-- services and client ids have a byte each
abbrev pub AreBytes : List Grant → Type 0
AreBytes grants = AllByRecursion (λ grant. (grant.service < 256) × (grant.cid < 256)) grants

abbrev pub is_of_service : ℕ → ℕ → Grant → Bool
is_of_service conn service grant = grant.conn == conn && (grant.service == service)

-- ---- where an id stands ----

pub record IsFoundAt (service cid : ℕ) (grants : List Grant) (place : ℕ) : Type 0 where
  pub within : place < length grants
  pub is : (d : Grant) → is_of service cid (slice_index_or grants place d) ≡ true

-- the id isn't there, and would stand at this place
pub record IsPlaceOf (service cid : ℕ) (grants : List Grant) (place : ℕ) : Type 0 where
  pub within : place ≤ length grants
  pub before : AllWithin (λ grant. is_before service cid grant ≡ true) grants 0 place
  pub behind : AllWithin (λ grant. is_behind service cid grant ≡ true) grants place (length grants)

-- ---- granting ----

-- the connection holds the id, and nobody else does
abbrev pub granted : ℕ → ℕ → ℕ → List Grant → List Grant
granted conn service cid grants =
    filter (is_before service cid) grants ++ record { conn = conn; service = service; cid = cid } ∷ filter (is_behind service cid) grants

-- another connection holds the id
abbrev pub is_taken : ℕ → ℕ → ℕ → List Grant → Bool
is_taken conn service cid grants = is_other conn (holder_in service cid grants)

-- ---- giving up ----

abbrev pub is_of_both : ℕ → ℕ → ℕ → Grant → Bool
is_of_both conn service cid grant = is_of service cid grant && (conn == grant.conn)

-- the id is nobody's, where this connection held it
abbrev pub releases : ℕ → ℕ → ℕ → List Grant → List Grant
releases conn service cid grants = filter (λ g. not (is_of_both conn service cid g)) grants

abbrev pub leaves : ℕ → List Grant → List Grant
leaves conn grants = filter (λ g. not (conn == g.conn)) grants
