-- What each device's own proxy meets of all events, and who is there.
-- A client's first message chooses its device for good. The client joins that device's proxy at the event with which this message becomes whole,
-- and has a name of its own there: names are counted from 1 in the order of choosing.
-- Lists of events have the newest first; all other lists have the oldest first.
use Rattle.std.specs.Prelude.{ℕ, zero, suc, ◌+◌, Bool, true, false, not, ◌==◌, nat_lt, List, [], ◌∷◌, ◌++◌, length, map, filter, take, drop, Option, Some, None}
use Rattle.proxy_history.specs.Events.{Event}
use Rattle.proxy_history.specs.Events as one
use Rattle.proxy_history.specs.Connections.{is_present}
use Rattle.proxy_history.specs.Coming.{piece_limit, greatest_name}
use Rattle.proxy_history.specs.History.{history}
use Rattle.many_history.specs.Events.{ManyEvent, Joined, Piece, Left, Took, ModemPiece, ModemGone, ModemBack, ModemTook, Now}
use Rattle.many_history.specs.Devices.{Devices, choice_on}

-- ---- where connections are ----

pub data Place : Type 0 where
  -- it sent these bytes so far, and hasn't chosen a device
  Undecided : (bytes : List ℕ) → Place
  -- at this device, under this name
  At : (device : ℕ) → (name : ℕ) → Place

pub record Seat : Type 0 where
  pub conn : ℕ
  pub place : Place

abbrev pub conns_of : List Seat → List ℕ
conns_of seats = map (λ seat. seat.conn) seats

unfoldable pub place_of : ℕ → List Seat → Option Place
place_of c [] = None
place_of c (seat ∷ seats) = elim (seat.conn == c) [ true ↦ Some seat.place | false ↦ place_of c seats ]

-- it has another place, and is gone
unfoldable pub placed : ℕ → Place → List Seat → List Seat
placed c place [] = []
placed c place (seat ∷ seats) = elim (seat.conn == c) [ true ↦ record { conn = c; place = place } ∷ seats | false ↦ seat ∷ placed c place seats ]

unfoldable pub without : ℕ → List Seat → List Seat
without c [] = []
without c (seat ∷ seats) = elim (seat.conn == c) [ true ↦ seats | false ↦ seat ∷ without c seats ]

abbrev pub seat_of : ℕ → Option Place → List Seat
seat_of c None = []
seat_of c (Some place) = record { conn = c; place = place } ∷ []

-- ---- what a client's device meets when it chooses ----

-- bytes in pieces of at most the greatest length; the first argument bounds their number, and as many as there are bytes are always enough
unfoldable pub pieces_up_to : ℕ → List ℕ → List (List ℕ)
pieces_up_to zero bytes = []
pieces_up_to (suc count) [] = []
pieces_up_to (suc count) (byte ∷ bytes) = take piece_limit (byte ∷ bytes) ∷ pieces_up_to count (drop piece_limit (byte ∷ bytes))

abbrev pub in_pieces : List ℕ → List (List ℕ)
in_pieces bytes = pieces_up_to (length bytes) bytes

-- it says these pieces, behind these events
unfoldable pub says : ℕ → List (List ℕ) → List Event → List Event
says name [] events = events
says name (piece ∷ pieces) events = says name pieces (one.Piece name piece ∷ events)

-- it joins, says what it said before, and then the piece with which it chose
abbrev pub arrival : ℕ → (before piece : List ℕ) → List Event
arrival name before piece = one.Piece name piece ∷ says name (in_pieces before) (one.Joined name ∷ [])

-- ---- what each device meets of an event ----

abbrev pub events_if : Bool → List Event → List Event
events_if true events = events
events_if false events = []

-- these events are for one device
abbrev pub only_at : ℕ → List Event → ℕ → List Event
only_at d events e = events_if (e == d) events

-- `names` tells the greatest name at each device so far
abbrev pub on_choice : Option ℕ → (before piece : List ℕ) → (names : ℕ → ℕ) → ℕ → List Event
on_choice None before piece names e = []
on_choice (Some d) before piece names e = only_at d (arrival (names d + 1) before piece) e

abbrev pub on_piece : {Known : Type 0} → Devices Known → Option Place → List ℕ → (names : ℕ → ℕ) → ℕ → List Event
on_piece s None piece names e = []
on_piece s (Some (Undecided before)) piece names e = on_choice (choice_on s (before ++ piece)) before piece names e
on_piece s (Some (At d name)) piece names e = only_at d (one.Piece name piece ∷ []) e

abbrev pub on_leaving : Option Place → ℕ → List Event
on_leaving None e = []
on_leaving (Some (Undecided before)) e = []
on_leaving (Some (At d name)) e = only_at d (one.Left name ∷ []) e

abbrev pub on_taking : Option Place → ℕ → ℕ → List Event
on_taking None count e = []
on_taking (Some (Undecided before)) count e = []
on_taking (Some (At d name)) count e = only_at d (one.Took name count ∷ []) e

-- the newest first
abbrev pub parts : {Known : Type 0} → Devices Known → ManyEvent → List Seat → (names : ℕ → ℕ) → (device : ℕ) → List Event
parts s (Joined c) seats names e = []
parts s (Piece c bytes) seats names e = on_piece s (place_of c seats) bytes names e
parts s (Left c) seats names e = on_leaving (place_of c seats) e
parts s (Took c count) seats names e = on_taking (place_of c seats) count e
parts s (ModemPiece d bytes) seats names e = only_at d (one.ModemPiece bytes ∷ []) e
parts s (ModemGone d) seats names e = only_at d (one.ModemGone ∷ []) e
parts s (ModemBack d) seats names e = only_at d (one.ModemBack ∷ []) e
parts s (ModemTook d count) seats names e = only_at d (one.ModemTook count ∷ []) e
parts s (Now time) seats names e = one.Now time ∷ []

-- ---- where connections are behind an event, their devices' proxies left aside ----

abbrev pub joined_if : Bool → ℕ → List Seat → List Seat
joined_if true c seats = seats ++ record { conn = c; place = Undecided [] } ∷ []
joined_if false c seats = seats

abbrev pub chosen_if : Option ℕ → ℕ → (stream : List ℕ) → (names : ℕ → ℕ) → List Seat → List Seat
chosen_if None c stream names seats = placed c (Undecided stream) seats
chosen_if (Some d) c stream names seats = placed c (At d (names d + 1)) seats

abbrev pub said_by : {Known : Type 0} → Devices Known → Option Place → ℕ → List ℕ → (names : ℕ → ℕ) → List Seat → List Seat
said_by s (Some (Undecided before)) c piece names seats = chosen_if (choice_on s (before ++ piece)) c (before ++ piece) names seats
said_by s _ c piece names seats = seats

abbrev pub seated : {Known : Type 0} → Devices Known → ManyEvent → (names : ℕ → ℕ) → List Seat → List Seat
seated s (Joined c) names seats = joined_if (nat_lt (length seats) s.limit) c seats
seated s (Piece c bytes) names seats = said_by s (place_of c seats) c bytes names seats
seated s (Left c) names seats = without c seats
seated s _ names seats = seats

-- one more than may be is refused, and has no place
abbrev pub refused_unless : Bool → ℕ → List Seat
refused_unless true c = []
refused_unless false c = record { conn = c; place = Undecided [] } ∷ []

abbrev pub refused : {Known : Type 0} → Devices Known → ManyEvent → List Seat → List Seat
refused s (Joined c) seats = refused_unless (nat_lt (length seats) s.limit) c
refused s _ seats = []

-- who went by itself
abbrev pub left : ManyEvent → List Seat → List Seat
left (Left c) seats = seat_of c (place_of c seats)
left _ seats = []

-- ---- all events ----

pub record Many : Type 0 where
  -- who is there, in order of joining
  pub seats : List Seat
  -- who was there and is gone
  pub gone : List Seat
  -- what the proxy of each device met
  pub own : ℕ → List Event
  -- whom the last event ended, but those that went by themselves, in order of joining
  pub dropped : List Seat

-- a connection of this place is there, as its device's proxy tells it
abbrev pub is_there_at : {Known : Type 0} → Devices Known → (ℕ → List Event) → Place → Bool
is_there_at s events (Undecided bytes) = true
is_there_at s events (At d name) = is_present name (history (s.protocol d) (events d))

abbrev pub there : (Place → Bool) → List Seat → List Seat
there is_there seats = filter (λ seat. is_there seat.place) seats

abbrev pub ended : (Place → Bool) → List Seat → List Seat
ended is_there seats = filter (λ seat. not (is_there seat.place)) seats

abbrev pub names_in : (ℕ → List Event) → ℕ → ℕ
names_in events d = greatest_name (events d)

-- what each device met once it met its part of an event too
abbrev pub own_after : {Known : Type 0} → Devices Known → ManyEvent → Many → ℕ → List Event
own_after s event m d = parts s event m.seats (names_in m.own) d ++ m.own d

abbrev pub seats_before : {Known : Type 0} → Devices Known → ManyEvent → Many → List Seat
seats_before s event m = seated s event (names_in m.own) m.seats

abbrev pub after : {Known : Type 0} → Devices Known → ManyEvent → Many → Many
after s event m = record {
  seats = there (is_there_at s (own_after s event m)) (seats_before s event m);
  gone = m.gone ++ left event m.seats ++ ended (is_there_at s (own_after s event m)) (seats_before s event m);
  own = own_after s event m;
  dropped = refused s event m.seats ++ ended (is_there_at s (own_after s event m)) (seats_before s event m);
}

abbrev pub nothing : Many
nothing = record { seats = []; gone = []; own = λ d. []; dropped = [] }

-- once these events were met
unfoldable pub many : {Known : Type 0} → Devices Known → List ManyEvent → Many
many s [] = nothing
many s (event ∷ events) = after s event (many s events)

-- what the proxy of a device meets
abbrev pub own : {Known : Type 0} → Devices Known → ℕ → List ManyEvent → List Event
own s d events = (many s events).own d
