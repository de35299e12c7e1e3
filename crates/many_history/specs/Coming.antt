-- The events that may come to a proxy of several devices. A list of events has the newest first.
use Rattle.std.specs.Prelude.{ℕ, ◌≤◌, ◌<◌, max, List, [], ◌∷◌, length, Option, Some, None}
use Rattle.proxy_history.specs.Events.{Event}
use Rattle.proxy_history.specs.Coming.{piece_limit, queued_for}
use Rattle.proxy_history.specs.History.{modem_queue}
use Rattle.many_history.specs.Events.{ManyEvent, Joined, Piece, Took, ModemPiece, ModemGone, ModemBack, ModemTook}
use Rattle.many_history.specs.Devices.{Devices}
use Rattle.many_history.specs.Many.{Place, Undecided, At, Seat, place_of, many}

-- the greatest name that joined, 0 where none did
abbrev pub greatest_conn : List ManyEvent → ℕ
greatest_conn [] = 0
greatest_conn (Joined c ∷ events) = max c (greatest_conn events)
greatest_conn (_ ∷ events) = greatest_conn events

-- the names of those who join rise
abbrev pub IsNew : ManyEvent → List ManyEvent → Type 0
IsNew (Joined c) events = greatest_conn events < c
IsNew _ events = Unit {0}

abbrev pub NamesRise : List ManyEvent → Type 0
NamesRise [] = Unit {0}
NamesRise (event ∷ events) = IsNew event events × NamesRise events

-- how many bytes wait for a connection of this place
abbrev pub queued_at : {Known : Type 0} → Devices Known → (ℕ → List Event) → Option Place → ℕ
queued_at s own None = 0
queued_at s own (Some (Undecided bytes)) = 0
queued_at s own (Some (At d name)) = queued_for (s.protocol d) name (own d)

-- pieces are short, no more is taken than waits, and a modem is that of a device that there is
abbrev pub MayMeet : {Known : Type 0} → Devices Known → ManyEvent → List Seat → (ℕ → List Event) → Type 0
MayMeet s (Piece c bytes) seats own = length bytes ≤ piece_limit
MayMeet s (Took c count) seats own = count ≤ queued_at s own (place_of c seats)
MayMeet s (ModemPiece d bytes) seats own = d < s.count × length bytes ≤ piece_limit
MayMeet s (ModemGone d) seats own = d < s.count
MayMeet s (ModemBack d) seats own = d < s.count
MayMeet s (ModemTook d count) seats own = d < s.count × count ≤ length (modem_queue (s.protocol d) (own d))
MayMeet s _ seats own = Unit {0}

-- an event may follow these events
abbrev pub MayCome : {Known : Type 0} → Devices Known → ManyEvent → List ManyEvent → Type 0
MayCome s event events = IsNew event events × MayMeet s event (many s events).seats (many s events).own

abbrev pub AreSound : {Known : Type 0} → Devices Known → List ManyEvent → Type 0
AreSound s [] = Unit {0}
AreSound s (event ∷ events) = MayCome s event events × AreSound s events
