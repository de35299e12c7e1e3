-- Laws of the table, of requests, and of lists of subscriptions.
use Rattle.std.specs.Prelude.{◌≡◌, ℕ, ◌^◌, ◌<◌, ◌≤◌, Bool, true, not, ◌&&◌, List, [], ◌∷◌, length, Option, Some, None, IsTrue}
use Rattle.std.specs.List.{list_any, AllByRecursion}
use Rattle.mbim_fields.specs.Layout.{Layout}
use Rattle.mbim_fields.specs.WellMade.{is_well_made}
use Rattle.kit_bytes.specs.Subscriptions.{Pair, by_service}
use Rattle.mbim_fields.specs.Canon.{canon}
use Rattle.mbim_fields.specs.Decoding.{HasNone}
use Rattle.mbim_requests.specs.declared.MbimRequest.{MbimRequest}
use Rattle.mbim_services.specs.Table.{Row, rows, is_of}
use Rattle.mbim_services.specs.Requests.{sent_by, buffer_sent, IsInRange}
use Rattle.mbim_services.specs.SubscribeLists.{list_buffer, list_of_buffer, list_layout, list_values, IsListOf, IsPair}
use Rattle.mbim_services.specs.declared.requests.TheConstants.{LONGEST_BUFFER}

abbrev pub is_good_layout : Option Layout → Bool
is_good_layout None = true
is_good_layout (Some layout) = is_well_made layout

abbrev pub are_good_rows : List Row → Bool
are_good_rows [] = true
are_good_rows (row ∷ rows) = is_good_layout row.query && is_good_layout row.set && is_well_made row.done && are_good_rows rows

-- in each layout of the table a list's count stands before it
abbrev pub LayoutsAreWellMade : Type 0
LayoutsAreWellMade = IsTrue (are_good_rows rows)

-- no row is of the command of one before it
abbrev pub are_apart : List Row → Bool
are_apart [] = true
are_apart (row ∷ rows) = not (list_any (λ other. is_of other row.service row.cid) rows) && are_apart rows

-- no command stands twice in the table
abbrev pub CommandsStandOnce : Type 0
CommandsStandOnce = IsTrue (are_apart rows)

-- each request has a buffer, which isn't long: the longest is that of a path
abbrev pub RequestsHaveBuffers : Type 0
RequestsHaveBuffers = (request : MbimRequest) → IsInRange request → (buffer : List ℕ) × (buffer_sent (sent_by request) ≡ Some buffer) × (length buffer ≤ LONGEST_BUFFER)

-- what is read of a buffer are the pairs of its fields, and where nothing is, it has none
abbrev pub IsReadAs : (buffer : List ℕ) → Option (List Pair) → Type 0
IsReadAs buffer (Some pairs) = IsListOf buffer pairs
IsReadAs buffer None = HasNone list_layout buffer

abbrev pub ListsAreRead : Type 0
ListsAreRead = (buffer : List ℕ) → IsReadAs buffer (list_of_buffer buffer)

-- the buffer of a list is the encoding of its subscriptions, as long as its places fit 4 bytes
abbrev pub ListsAreWritten : Type 0
ListsAreWritten = (list : List Pair) → AllByRecursion IsPair list → length (list_buffer list) < 2 ^ 32 → canon list_layout (list_values (by_service list)) ≡ Some (list_buffer list)
