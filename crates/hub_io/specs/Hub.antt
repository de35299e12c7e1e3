-- What a hub answers, and the entry that a call on it has in the record.
use Rattle.std.specs.Prelude.{◌≡◌, ◌≢◌, ℕ, ◌<◌, ◌≤◌, Bool, true, false, List, take, Option, Some, Result, Ok, Err}
use Rattle.std.specs.Option.{option_map}
use Rattle.link_io.specs.Target.{address_of}
use Rattle.link_io.specs.declared.link.Target.{Target}
use Rattle.proxy_history.specs.Events as history
use Rattle.hub_io.specs.Record.{Call, Opened, Told, ToldRoom, ToldModemRoom, ToldStop, NextFailed, Sent, SendFailed, SentModem, SendModemFailed, Reopened, ReopenFailed}
use Rattle.hub_io.specs.declared.hub.HubEvent.{HubEvent}
use Rattle.hub_io.specs.declared.hub.HubEvent.TheVariants.{Joined, Piece, Left, ModemPiece, ModemGone, Now, Room, ModemRoom, Stop}

-- ---- what is answered ----

-- a piece has a byte, and fits a buffer of this length
abbrev pub FitsBuffer : HubEvent → ℕ → Type 0
FitsBuffer (Piece conn size) room = (0 < size) × (size ≤ room)
FitsBuffer (ModemPiece size) room = (0 < size) × (size ≤ room)
FitsBuffer _ room = Unit {0}

-- who joins has a greater name than was told before, and nothing else tells a name; from the greatest name before to the one after
abbrev pub NamesRise : Option HubEvent → ℕ → ℕ → Type 0
NamesRise (Some (Joined conn)) old new = (old < conn) × (new ≡ conn)
NamesRise _ old new = new ≡ old

-- the same are there
abbrev pub SameClients : (ℕ → Bool) → (ℕ → Bool) → Type 0
SameClients old new = (conn : ℕ) → new conn ≡ old conn

-- this one isn't there any more, and of the others the same are
abbrev pub GoesAlone : ℕ → (ℕ → Bool) → (ℕ → Bool) → Type 0
GoesAlone conn old new = (new conn ≡ false) × ((other : ℕ) → other ≢ conn → new other ≡ old other)

-- this one is there, and of the others nobody came
abbrev pub ComesAlone : ℕ → (ℕ → Bool) → (ℕ → Bool) → Type 0
ComesAlone conn old new = (new conn ≡ true) × ((other : ℕ) → other ≢ conn → new other ≡ true → old other ≡ true)

-- only who joins comes, only who leaves goes, and only who is there tells something; from who was there before to who is after
abbrev pub ToldOfThose : Option HubEvent → (ℕ → Bool) → (ℕ → Bool) → Type 0
ToldOfThose (Some (Joined conn)) old new = ComesAlone conn old new
ToldOfThose (Some (Piece conn size)) old new = (old conn ≡ true) × SameClients old new
ToldOfThose (Some (Room conn)) old new = (old conn ≡ true) × SameClients old new
ToldOfThose (Some (Left conn)) old new = (old conn ≡ true) × GoesAlone conn old new
ToldOfThose _ old new = SameClients old new

-- no count has fallen
abbrev pub NoneFell : (ℕ → ℕ) → (ℕ → ℕ) → Type 0
NoneFell old new = (conn : ℕ) → old conn ≤ new conn

-- ---- what is recorded ----

-- an opening, by the path of its socket and the address of its device
abbrev pub opened_call : {T E : Type 0} → Result T E → List ℕ → Option Target → Call
opened_call (Ok t) socket device = Opened socket (option_map address_of device) true
opened_call (Err e) socket device = Opened socket (option_map address_of device) false

-- an event, which left these bytes in the buffer
abbrev pub event_call : HubEvent → List ℕ → Call
event_call (Joined conn) buffer = Told (history.Joined conn)
event_call (Piece conn size) buffer = Told (history.Piece conn (take size buffer))
event_call (Left conn) buffer = Told (history.Left conn)
event_call (ModemPiece size) buffer = Told (history.ModemPiece (take size buffer))
event_call ModemGone buffer = Told history.ModemGone
event_call (Now time) buffer = Told (history.Now time)
event_call (Room conn) buffer = ToldRoom conn
event_call ModemRoom buffer = ToldModemRoom
event_call Stop buffer = ToldStop

abbrev pub next_call : {E : Type 0} → Result HubEvent E → List ℕ → Call
next_call (Ok event) buffer = event_call event buffer
next_call (Err e) buffer = NextFailed

abbrev pub send_call : {E : Type 0} → Result ℕ E → ℕ → List ℕ → Call
send_call (Ok taken) conn bytes = Sent conn bytes taken
send_call (Err e) conn bytes = SendFailed conn bytes

abbrev pub send_modem_call : {E : Type 0} → Result ℕ E → List ℕ → Call
send_modem_call (Ok taken) bytes = SentModem bytes taken
send_modem_call (Err e) bytes = SendModemFailed bytes

abbrev pub reopen_call : {T E : Type 0} → Result T E → Call
reopen_call (Ok t) = Reopened
reopen_call (Err e) = ReopenFailed
