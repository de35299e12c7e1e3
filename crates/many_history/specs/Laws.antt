-- What holds of what each device's own proxy meets. Lists of events have the newest first.
use Rattle.std.specs.Prelude.{◌≡◌, ℕ, Bool, true, false, not, List, [], ◌∷◌, ◌++◌, filter, Some}
use Rattle.proxy_history.specs.Events.{Event}
use Rattle.proxy_history.specs.Events as one
use Rattle.proxy_history.specs.Streams.{stream}
use Rattle.proxy_history.specs.Coming as one_coming
use Rattle.many_history.specs.Events.{ManyEvent, ModemPiece, ModemGone, ModemBack, ModemTook, Now}
use Rattle.many_history.specs.Devices.{Devices}
use Rattle.many_history.specs.Many.{Place, At, place_of, arrival, only_at, parts, names_in, many, own}
use Rattle.many_history.specs.Queues.{text_at, text_for}
use Rattle.many_history.specs.Coming.{AreSound}

-- where these events may come, those of each device may come to its own proxy
abbrev pub OwnEventsMayCome : Type 0 → Type 0
OwnEventsMayCome Known = (s : Devices Known) (events : List ManyEvent) → AreSound s events → (d : ℕ) → one_coming.AreSound (s.protocol d) (own s d events)

-- ---- the modem and the clock ----

-- a client joins, says something or leaves, or its socket takes bytes
abbrev pub is_of_client : Event → Bool
is_of_client (one.Joined c) = true
is_of_client (one.Piece c bytes) = true
is_of_client (one.Left c) = true
is_of_client (one.Took c count) = true
is_of_client _ = false

-- what an event brings to a device's proxy where no client brings it
abbrev pub of_no_client : ManyEvent → ℕ → List Event
of_no_client (ModemPiece d bytes) e = only_at d (one.ModemPiece bytes ∷ []) e
of_no_client (ModemGone d) e = only_at d (one.ModemGone ∷ []) e
of_no_client (ModemBack d) e = only_at d (one.ModemBack ∷ []) e
of_no_client (ModemTook d count) e = only_at d (one.ModemTook count ∷ []) e
of_no_client (Now time) e = one.Now time ∷ []
of_no_client _ e = []

-- the events of this device's modem and those of the clock
unfoldable pub of_modem_and_clock : ℕ → List ManyEvent → List Event
of_modem_and_clock d [] = []
of_modem_and_clock d (event ∷ events) = of_no_client event d ++ of_modem_and_clock d events

-- those of each device's modem come to its own proxy, all of them and in their order, and so do those of the clock
abbrev pub EachHasItsModemAndTheClock : Type 0 → Type 0
EachHasItsModemAndTheClock Known = (s : Devices Known) (events : List ManyEvent) (d : ℕ) → filter (λ event. not (is_of_client event)) (own s d events) ≡ of_modem_and_clock d events

-- ---- clients ----

-- with the piece by which a client chooses, its device's proxy has all that the client said
abbrev pub NothingIsLostByChoosing : Type 0
NothingIsLostByChoosing = (name : ℕ) (before piece : List ℕ) (events : List Event) → stream name (arrival name before piece ++ events) ≡ before ++ piece

-- whom the last event ended has the bytes of the place where it was
abbrev pub DroppedHaveTheBytesOfTheirPlace : Type 0 → Type 0
DroppedHaveTheBytesOfTheirPlace Known = (s : Devices Known) (events : List ManyEvent) (c : ℕ) (place : Place)
    → AreSound s events → place_of c (many s events).dropped ≡ Some place → text_for s c events ≡ text_at s (many s events).own (Some place)

-- of what its device's proxy meets nothing, a client notices nothing: it stays where it is, and so do its bytes
abbrev pub OthersChangeNothing : Type 0 → Type 0
OthersChangeNothing Known = (s : Devices Known) (event : ManyEvent) (events : List ManyEvent) (c d name : ℕ)
    → place_of c (many s events).seats ≡ Some (At d name)
    → parts s event (many s events).seats (names_in (many s events).own) d ≡ []
    → (place_of c (many s (event ∷ events)).seats ≡ Some (At d name)) × (text_for s c (event ∷ events) ≡ text_for s c events)
