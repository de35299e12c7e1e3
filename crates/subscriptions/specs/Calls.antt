-- What the calls so far say of each client. A list of calls has the newest first.
use Rattle.std.specs.Prelude.{ℕ, Bool, true, false, not, ◌&&◌, ◌==◌, List, [], ◌∷◌, find, Option, Some, None, if◌then◌else◌}
use Rattle.kit_bytes.specs.Subscriptions.{Pair}
use Rattle.kit_bytes.specs.Services.{starting_list}
use Rattle.subscriptions.specs.Clients.{Client, is_too_long, joins, leaves, shows, sets}

pub data Call : Type 0 where
  Joins : (conn : ℕ) → Call
  Leaves : (conn : ℕ) → Call
  Shows : (conn : ℕ) → (shown : Bool) → Call
  Sets : (conn : ℕ) → (list : List Pair) → Call

-- the clients that are there after these calls
abbrev pub clients_after : List Call → List Client
clients_after [] = []
clients_after (Joins conn ∷ past) = joins conn (clients_after past)
clients_after (Leaves conn ∷ past) = leaves conn (clients_after past)
clients_after (Shows conn shown ∷ past) = shows conn shown (clients_after past)
clients_after (Sets conn list ∷ past) = sets conn list (clients_after past)

-- ---- who is there: who joined, and didn't leave since ----

abbrev pub is_coming_or_going : ℕ → Call → Bool
is_coming_or_going conn (Joins joining) = conn == joining
is_coming_or_going conn (Leaves leaving) = conn == leaving
is_coming_or_going conn _ = false

abbrev pub is_coming : Option Call → Bool
is_coming (Some (Joins conn)) = true
is_coming _ = false

abbrev pub is_there : ℕ → List Call → Bool
is_there conn calls = is_coming (find (is_coming_or_going conn) calls)

-- ---- whether it is shown: what was last said since it joined ----

abbrev pub tells_shown : ℕ → Call → Bool
tells_shown conn (Joins joining) = conn == joining
tells_shown conn (Shows client shown) = conn == client
tells_shown conn _ = false

abbrev pub shown_by : Option Call → Bool
shown_by (Some (Shows client shown)) = shown
shown_by _ = false

abbrev pub is_shown : ℕ → List Call → Bool
is_shown conn calls = shown_by (find (tells_shown conn) calls)

-- ---- its list: the last that was set, or else the starting list; one that is too long isn't set ----

abbrev pub tells_list : ℕ → Call → Bool
tells_list conn (Joins joining) = conn == joining
tells_list conn (Sets client list) = not (is_too_long list) && (conn == client)
tells_list conn _ = false

abbrev pub list_by : Option Call → List Pair
list_by (Some (Joins joining)) = starting_list
list_by (Some (Sets client list)) = list
list_by _ = []

abbrev pub last_list : ℕ → List Call → List Pair
last_list conn calls = list_by (find (tells_list conn) calls)

-- ---- all of it ----

abbrev pub client_of : ℕ → List Call → Client
client_of conn calls = record { conn = conn; shown = is_shown conn calls; list = last_list conn calls }

abbrev pub client_if : Bool → ℕ → List Call → Option Client
client_if there conn calls = if there then Some (client_of conn calls) else None
