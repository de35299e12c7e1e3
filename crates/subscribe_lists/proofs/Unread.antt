-- CIDs of an event that no event in front of it has.
use Rattle.std.proofs.Common.{◌⊎◌, ℕ, List, take, Some, Contains}
use Rattle.kit_bytes.specs.Subscriptions.{Subscription}
use Rattle.mbim_services.specs.EventLists.{IsEventAt, pairs_in}

-- CIDs of the event of a place: each other CID that it has is one of an event in front of it, of the same service
pub record HasUnread (events : List Subscription) (place : ℕ) (uuid cids : List ℕ) : Type 0 where
  pub all : List ℕ
  pub there : IsEventAt events place uuid all
  pub within : (cid : ℕ) → Contains cids cid → Contains all cid
  pub others : (cid : ℕ) → Contains all cid → Contains cids cid ⊎ Contains (pairs_in (take place events)) (uuid, Some cid)
