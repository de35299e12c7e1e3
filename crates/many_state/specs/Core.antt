-- What a core of a proxy of several devices keeps, and what it stands for: a core for each device, where each connection is, and who was dropped.
-- `T` is what a device's core keeps of a client, and `S` what it keeps beside the connections. Lists of events have the newest first.
use Rattle.std.specs.Prelude.{◌≡◌, ℕ, suc, ◌<◌, ◌≤◌, max, Bool, true, false, List, [], ◌∷◌, ◌++◌, length, slice_get, Option, Some, None, is_some}
use Rattle.connections.specs.Table.{connection_in, waiting_or}
use Rattle.proxy_history.specs.Coming.{piece_limit}
use Rattle.proxy_state.specs.State.{Core, Handlers}
use Rattle.proxy_state.specs.Step as device
use Rattle.proxy_state.specs.Stands.{Kept, IsSuffix}
use Rattle.proxy_state.specs.Stands as proxy
use Rattle.proxy_solo.specs.Cores.{core_after}
use Rattle.many_history.specs.Events.{ManyEvent, Joined, Piece, Took, ModemPiece, ModemGone, ModemBack, ModemTook}
use Rattle.many_history.specs.Devices.{Devices}
use Rattle.many_history.specs.Many.{Place, Undecided, At, Seat, place_of, parts, seated, refused, there, ended, many, own}
use Rattle.many_history.specs.Coming.{greatest_conn, AreSound}

pub record ManyCore (T S : Type 0) : Type 0 where
  -- those of the devices, in their order
  pub cores : List (Core T S)
  -- who is there, in order of joining
  pub seats : List Seat
  -- who was dropped and wasn't asked for yet, in order of joining
  pub dropped : List Seat
  -- the greatest name of a connection so far
  pub greatest : ℕ

-- ---- the core of a device ----

abbrev pub greatest_in : {T S : Type 0} → Option (Core T S) → ℕ
greatest_in None = 0
greatest_in (Some core) = core.state.table.greatest

abbrev pub names_of : {T S : Type 0} → List (Core T S) → ℕ → ℕ
names_of cores d = greatest_in (slice_get cores d)

abbrev pub has : {T S : Type 0} → ℕ → Option (Core T S) → Bool
has name None = false
has name (Some core) = is_some (connection_in name core.state.table.present)

-- a connection of this place is there
abbrev pub is_there_in : {T S : Type 0} → List (Core T S) → Place → Bool
is_there_in cores (Undecided bytes) = true
is_there_in cores (At d name) = has name (slice_get cores d)

-- ---- the bytes that wait ----

abbrev pub waiting_under : {T S : Type 0} → ℕ → Option (Core T S) → List ℕ
waiting_under name None = []
waiting_under name (Some core) = proxy.waiting_for name core

abbrev pub waiting_at : {T S : Type 0} → List (Core T S) → Option Place → List ℕ
waiting_at cores None = []
waiting_at cores (Some (Undecided bytes)) = []
waiting_at cores (Some (At d name)) = waiting_under name (slice_get cores d)

-- for a connection that is there, or was dropped and wasn't asked for yet; none for any other name
abbrev pub waiting_for : {T S : Type 0} → ℕ → ManyCore T S → List ℕ
waiting_for c x = waiting_at x.cores (place_of c (x.seats ++ x.dropped))

-- ---- what an event makes of it ----

abbrev pub greatest_after : ManyEvent → ℕ → ℕ
greatest_after (Joined c) greatest = max c greatest
greatest_after _ greatest = greatest

-- whoever isn't there for its device is dropped
abbrev pub settled : {T S : Type 0} → ManyCore T S → ManyCore T S
settled x = record x { seats = there (is_there_in x.cores) x.seats; dropped = x.dropped ++ ended (is_there_in x.cores) x.seats }

-- each is changed by its place, counted from `i`
unfoldable pub each_from : {X : Type 0} → (change : ℕ → X → X) → (i : ℕ) → List X → List X
each_from change i [] = []
each_from change i (x ∷ xs) = change i x ∷ each_from change (suc i) xs

module _ {Known T S : Type 0} (s : Devices Known) (h : Handlers T S) where
  -- a device's core meets its part of the event, and whom it drops is asked for before what comes next
  abbrev pub core_behind : ManyEvent → ManyCore T S → ℕ → Core T S → Core T S
  core_behind event x d core = core_after core (device.step h (s.protocol d).size) (parts s event x.seats (names_of x.cores) d)

  abbrev pub cores_after : ManyEvent → ManyCore T S → List (Core T S)
  cores_after event x = each_from (core_behind event x) 0 x.cores

  abbrev pub seats_before : ManyEvent → ManyCore T S → List Seat
  seats_before event x = seated s event (names_of x.cores) x.seats

  -- the event is met, and nobody is dropped yet who was let in
  abbrev pub met : ManyEvent → ManyCore T S → ManyCore T S
  met event x = record {
    cores = cores_after event x;
    seats = seats_before event x;
    dropped = refused s event x.seats;
    greatest = greatest_after event x.greatest;
  }

  -- then whoever isn't there for its device any more is dropped
  abbrev pub step : ManyEvent → ManyCore T S → ManyCore T S
  step event x = settled (met event x)

-- ---- the events that may come ----

module _ {T S : Type 0} (h : Handlers T S) where
  -- of those who are there, whoever was dropped left aside
  abbrev pub queue_under : ℕ → Option (Core T S) → List ℕ
  queue_under name None = []
  queue_under name (Some core) = waiting_or [] (connection_in name core.state.table.present)

  abbrev pub queue_at : List (Core T S) → Option Place → List ℕ
  queue_at cores None = []
  queue_at cores (Some (Undecided bytes)) = []
  queue_at cores (Some (At d name)) = queue_under name (slice_get cores d)

  abbrev pub modem_queue_of : Option (Core T S) → List ℕ
  modem_queue_of None = []
  modem_queue_of (Some core) = h.modem_queue core.state.beside

  abbrev pub MayMeet : ManyEvent → ManyCore T S → Type 0
  MayMeet (Joined c) x = x.greatest < c
  MayMeet (Piece c bytes) x = length bytes ≤ piece_limit
  MayMeet (Took c count) x = count ≤ length (queue_at x.cores (place_of c x.seats))
  MayMeet (ModemPiece d bytes) x = d < length x.cores × length bytes ≤ piece_limit
  MayMeet (ModemGone d) x = d < length x.cores
  MayMeet (ModemBack d) x = d < length x.cores
  MayMeet (ModemTook d count) x = d < length x.cores × count ≤ length (modem_queue_of (slice_get x.cores d))
  MayMeet _ x = Unit {0}

-- ---- what it stands for ----

-- each device's core stands for what its own proxy met, and wasn't asked yet whom it dropped last
pub record Stands {Known T S : Type 0} (s : Devices Known) (k : ℕ → Kept Known T S) (events : List ManyEvent) (x : ManyCore T S) : Type 0 where
  pub count : length x.cores ≡ s.count
  pub cores : (d : ℕ) (core : Core T S) → slice_get x.cores d ≡ Some core → proxy.StandsAfter (s.protocol d) (k d) (own s d events) core
  pub seats : x.seats ≡ (many s events).seats
  pub dropped : IsSuffix x.dropped (many s events).dropped
  pub greatest : x.greatest ≡ greatest_conn events
  pub sound : AreSound s events

pub record StandsAfter {Known T S : Type 0} (s : Devices Known) (k : ℕ → Kept Known T S) (events : List ManyEvent) (x : ManyCore T S) : Type 0 where
  pub stands : Stands s k events x
  pub all_dropped : x.dropped ≡ (many s events).dropped
