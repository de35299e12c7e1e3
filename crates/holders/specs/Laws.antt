-- What holds of every list of calls. A list of calls has the newest first.
use Rattle.std.specs.Prelude.{◌≡◌, ◌↔◌, ℕ, Bool, true, false, ◌==◌, List, ◌∷◌, ◌++◌, Some, All}
use Rattle.proxy_history.specs.ClientIds.{Grant, holder_in}
use Rattle.holders.specs.Grants.{is_of_both, is_taken}
use Rattle.holders.specs.Calls.{Call, Grants, Releases, Leaves, Clears, held_after}

-- its connection gives the id up, or leaves, or all ids are given up
abbrev pub ends : Grant → Call → Bool
ends grant (Releases conn service cid) = is_of_both conn service cid grant
ends grant (Leaves conn time) = conn == grant.conn
ends grant Clears = true
ends grant _ = false

-- the id was granted to the connection, which no other held then, and no later call ends that
pub record IsGrantedAndNotEnded (grant : Grant) (calls : List Call) : Type 0 where
  pub later : List Call
  pub earlier : List Call
  pub whole : calls ≡ later ++ Grants grant.conn grant.service grant.cid ∷ earlier
  pub free : is_taken grant.conn grant.service grant.cid (held_after earlier) ≡ false
  pub none : All (λ call. ends grant call ≡ false) later

abbrev pub HeldUntilEnded : Type 0
HeldUntilEnded = (calls : List Call) (conn service cid : ℕ)
    → (holder_in service cid (held_after calls) ≡ Some conn) ↔ IsGrantedAndNotEnded (record { conn = conn; service = service; cid = cid }) calls
