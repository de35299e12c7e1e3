-- The clients that are there, in order of joining, and what each call makes of them.
use Rattle.std.specs.Prelude.{ℕ, Bool, false, not, ◌==◌, nat_lt, List, [], ◌∷◌, ◌++◌, length, map, filter, find, Option, Some, None, if◌then◌else◌}
use Rattle.std.specs.List.{flat_map}
use Rattle.kit_bytes.specs.Subscriptions.{Pair, merge}
use Rattle.kit_bytes.specs.Services.{starting_list}

pub record Client : Type 0 where
  -- the name of its connection
  pub conn : ℕ
  -- its list counts in the merge
  pub shown : Bool
  -- what it subscribes to
  pub list : List Pair

abbrev pub is_of : ℕ → Client → Bool
is_of conn client = conn == client.conn

abbrev pub client_in : ℕ → List Client → Option Client
client_in conn clients = find (is_of conn) clients

-- ---- joining and leaving ----

abbrev pub newcomer : ℕ → Client
newcomer conn = record { conn = conn; shown = false; list = starting_list }

abbrev pub leaves : ℕ → List Client → List Client
leaves conn clients = filter (λ client. not (is_of conn client)) clients

-- who is there already begins anew
abbrev pub joins : ℕ → List Client → List Client
joins conn clients = leaves conn clients ++ newcomer conn ∷ []

-- ---- one client is changed ----

unfoldable pub changed : ℕ → (Client → Client) → List Client → List Client
changed conn change [] = []
changed conn change (client ∷ clients) = if is_of conn client then change client ∷ clients else client ∷ changed conn change clients

abbrev pub with_shown : Bool → Client → Client
with_shown shown client = record client { shown = shown }

abbrev pub shows : ℕ → Bool → List Client → List Client
shows conn shown clients = changed conn (with_shown shown) clients

abbrev pub with_list : List Pair → Client → Client
with_list list client = record client { list = list }

-- a client has at most thirty pairs
abbrev pub is_too_long : List Pair → Bool
is_too_long list = nat_lt 30 (length list)

abbrev pub sets : ℕ → List Pair → List Client → List Client
sets conn list clients = if is_too_long list then clients else changed conn (with_list list) clients

abbrev pub with_both : Bool → List Pair → Client → Client
with_both shown list client = record client { shown = shown; list = list }

abbrev pub updates : ℕ → Bool → List Pair → List Client → List Client
updates conn shown list clients = changed conn (with_both shown list) clients

-- ---- lists ----

abbrev pub list_in : Option Client → List Pair
list_in None = []
list_in (Some client) = client.list

-- none for a connection that isn't there
abbrev pub list_of : ℕ → List Client → List Pair
list_of conn clients = list_in (client_in conn clients)

abbrev pub shown_lists : List Client → List (List Pair)
shown_lists clients = map (λ client. client.list) (filter (λ client. client.shown) clients)

-- what a client has in the merge
abbrev pub share : Client → List Pair
share client = if client.shown then client.list else []

-- the lists of the shown clients, one behind the other
abbrev pub gathered : List Client → List Pair
gathered clients = flat_map (λ list. list) (shown_lists clients)

-- all that the shown clients subscribe to
abbrev pub merged : List Client → List Pair
merged clients = merge (shown_lists clients)
