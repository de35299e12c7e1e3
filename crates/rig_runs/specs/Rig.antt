-- The rig: a large input for a proxy that is drawn from a number. Lists of events have the newest first.
use Rattle.std.specs.Prelude.{ℕ, ◌+◌, ◌-◌, ◌%◌, Bool, true, false, ◌==◌, nat_lt, if◌then◌else◌, List, [], ◌∷◌, fold, filter, length, codes}
use Rattle.proxy_history.specs.Events.{Event, Joined, Piece, Now}
use Rattle.rig_runs.specs.Draws.{Turn, turns_after}
use Rattle.rig_runs.specs.Stage.{Cast, Stage, empty, meet, longest_arrives, shortest_arrives, all_arrive}

-- the path of the device
abbrev pub device : List ℕ
device = codes "rig"

-- how long a request waits for its answer, in milliseconds
abbrev pub time_limit : ℕ
time_limit = 30000

-- what a protocol's clients say
pub record Script : Type 0 where
  -- to open the device, one message after the other
  pub opening : (conn : ℕ) → List (List ℕ)
  -- the request of this choice, 0 to 3, with this number of the client's own
  pub request : (conn choice number : ℕ) → List ℕ
  -- the number of a client's first request
  pub first : ℕ

-- the modem holds at most so many messages when a request is sent
abbrev pub most_held : ℕ
most_held = 200

-- how long a turn of the clock is, and the one behind all turns, in milliseconds
abbrev pub tick : ℕ
tick = 1000

abbrev pub last_tick : ℕ
last_tick = 60000

-- ---- numbers of the clients' own ----

abbrev pub is_piece_of : ℕ → Event → Bool
is_piece_of c (Piece d bytes) = d == c
is_piece_of c _ = false

-- how many messages a client sent; each is one piece
abbrev pub sent : ℕ → List Event → ℕ
sent c events = length (filter (is_piece_of c) events)

-- the numbers go from the first one to 65,535, and then from 1 on
abbrev pub number_after : (first requests : ℕ) → ℕ
number_after first requests = (first - 1 + requests) % 65535 + 1

abbrev pub next_number : Script → ℕ → List Event → ℕ
next_number script c events = number_after script.first (sent c events - length (script.opening c))

-- ---- the setup ----

abbrev pub join : Cast → Stage → ℕ → Stage
join cast stage c = meet cast (Joined c) stage

abbrev pub say : Cast → ℕ → Stage → List ℕ → Stage
say cast c stage message = meet cast (Piece c message) stage

-- a client says this, and what the modem says to that arrives at once
abbrev pub ask : Cast → ℕ → Stage → List ℕ → Stage
ask cast c stage message = all_arrive cast (say cast c stage message)

abbrev pub open_device : Cast → Script → Stage → ℕ → Stage
open_device cast script stage c = fold (ask cast c) stage (script.opening c)

-- all clients join, and then one after the other opens the device
abbrev pub ready : Cast → Script → Stage
ready cast script = fold (open_device cast script) (fold (join cast) empty cast.clients) cast.clients

-- ---- the turns ----

abbrev pub pass : Cast → ℕ → Stage → Stage
pass cast time stage = meet cast (Now (cast.proxy.time stage.events + time)) stage

-- the client sends its next request, unless too many messages are held
abbrev pub request_or_arrive : Cast → Script → Turn → Stage → Stage
request_or_arrive cast script turn stage =
    if nat_lt (length stage.held) most_held
    then say cast turn.client stage (script.request turn.client turn.choice (next_number script turn.client stage.events))
    else longest_arrives cast stage

abbrev pub play : Cast → Script → Stage → Turn → Stage
play cast script stage turn =
    if nat_lt turn.choice 4 then request_or_arrive cast script turn stage
    else if nat_lt turn.choice 6 then longest_arrives cast stage
    else if turn.choice == 6 then shortest_arrives cast stage
    else pass cast tick stage

-- ---- the whole ----

abbrev pub played : Cast → Script → (turns number : ℕ) → Stage
played cast script turns number = fold (play cast script) (ready cast script) (turns_after (length cast.clients) turns number)

-- behind the turns all messages that are held arrive, and all that still waits for its answer expires
abbrev pub ended : Cast → Stage → Stage
ended cast stage = pass cast last_tick (all_arrive cast stage)

abbrev pub rig : Cast → Script → (turns number : ℕ) → List Event
rig cast script turns number = (ended cast (played cast script turns number)).events
