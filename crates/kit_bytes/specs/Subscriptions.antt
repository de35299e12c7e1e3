-- What a client subscribes to: single CIDs of services, or all CIDs of a service.
-- Source: MBIM_CID_DEVICE_SERVICE_SUBSCRIBE_LIST in the USB-IF MBIM specification 1.0.
use Rattle.std.specs.Prelude.{ℕ, bytes_eq, Bool, not, ◌&&◌, is_none, List, [], ◌∷◌, ◌++◌, map, filter, Option, Some, None, if◌then◌else◌}
use Rattle.std.specs.List.{flat_map, list_any}
use Rattle.std.specs.Option.{option_cmp}
use Rattle.std.specs.declared.cmp.Ordering.{Ordering}
use Rattle.std.specs.Ordering.{nat_cmp, ordering_then, is_lt, is_eq}
use Rattle.std.specs.Cmp.Lexicographic.{slice_cmp}

-- the bytes of a service's UUID, and one of its CIDs, or None for all of them
abbrev pub Pair : Type 0
Pair = List ℕ × Option ℕ

-- by the bytes of the UUID, and then by the CID
abbrev pub pair_cmp : Pair → Pair → Ordering
pair_cmp a b = ordering_then (slice_cmp nat_cmp a.0 b.0) (option_cmp nat_cmp a.1 b.1)

-- an ordered list with one more pair, unless it is there
abbrev pub pairs_with : Pair → List Pair → List Pair
pairs_with pair [] = pair ∷ []
pairs_with pair (first ∷ pairs) = if is_lt (pair_cmp pair first) then pair ∷ first ∷ pairs
    else if is_eq (pair_cmp pair first) then first ∷ pairs
    else first ∷ pairs_with pair pairs

-- the pairs in order, each once
abbrev pub ordered_pairs : List Pair → List Pair
ordered_pairs [] = []
ordered_pairs (pair ∷ pairs) = pairs_with pair (ordered_pairs pairs)

-- the pairs have all CIDs of this service
abbrev pub has_all : List Pair → List ℕ → Bool
has_all pairs uuid = list_any (λ pair. bytes_eq pair.0 uuid && is_none pair.1) pairs

-- a single CID that stands beside all CIDs of its service
abbrev pub is_beside_all : List Pair → Pair → Bool
is_beside_all pairs pair = not (is_none pair.1) && has_all pairs pair.0

-- the pairs in order, each once, with no single CID beside all CIDs of its service
abbrev pub normal_form : List Pair → List Pair
normal_form pairs = filter (λ pair. not (is_beside_all pairs pair)) (ordered_pairs pairs)

-- the normal form of the union of lists
abbrev pub merge : List (List Pair) → List Pair
merge lists = normal_form (flat_map (λ list. list) lists)

-- ---- service by service ----

pub record Subscription : Type 0 where
  pub uuid : List ℕ
  -- none for all CIDs of the service
  pub cids : List ℕ

abbrev pub cids_of : Option ℕ → List ℕ
cids_of None = []
cids_of (Some cid) = cid ∷ []

abbrev pub subscription_of : Pair → Subscription
subscription_of pair = record { uuid = pair.0; cids = cids_of pair.1 }

-- the subscription in front, joined to the first of them where both have one service
abbrev pub in_front : Subscription → List Subscription → List Subscription
in_front subscription [] = subscription ∷ []
in_front subscription (first ∷ others) =
    if bytes_eq first.uuid subscription.uuid
    then record { uuid = first.uuid; cids = subscription.cids ++ first.cids } ∷ others
    else subscription ∷ first ∷ others

-- one for each service of a list in order
abbrev pub by_service : List Pair → List Subscription
by_service [] = []
by_service (pair ∷ pairs) = in_front (subscription_of pair) (by_service pairs)

-- the pairs of a subscription
abbrev pub pairs_of : (uuid : List ℕ) → (cids : List ℕ) → List Pair
pairs_of uuid [] = (uuid, None) ∷ []
pairs_of uuid (cid ∷ cids) = map (λ n. (uuid, Some n)) (cid ∷ cids)
