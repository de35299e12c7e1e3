-- The list of a client, as it comes in the buffer of its command.
use Rattle.std.specs.Prelude.{ℕ, is_none, List, filter, map, Option, Some, None, if◌then◌else◌}
use Rattle.kit_bytes.specs.Subscriptions.{Pair, normal_form}
use Rattle.mbim_services.specs.SubscribeLists.{list_of_buffer}
use Rattle.subscriptions.specs.declared.client_list.TheConstants.{LONGEST_CLIENT_LIST}
use Rattle.subscriptions.specs.Lists.{fits}

-- those that stand for all CIDs of a service
abbrev pub services : List Pair → List Pair
services pairs = filter (λ pair. is_none pair.1) pairs

-- single CIDs of a service
abbrev pub singles : (uuid : List ℕ) → (cids : List ℕ) → List Pair
singles uuid cids = map (λ cid. (uuid, Some cid)) cids

-- in normal form, where no more pairs are left than a client may have
abbrev pub list_of_pairs : Option (List Pair) → Option (List Pair)
list_of_pairs None = None
list_of_pairs (Some pairs) = if fits LONGEST_CLIENT_LIST pairs then Some (normal_form pairs) else None

abbrev pub client_list : (buffer : List ℕ) → Option (List Pair)
client_list buffer = list_of_pairs (list_of_buffer buffer)
