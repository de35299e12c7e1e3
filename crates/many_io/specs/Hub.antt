-- What a hub of several devices answers, and the entry that a call on it has in the record.
use Rattle.std.specs.Prelude.{ℕ, ◌<◌, true, false, List, map, take, Result, Ok, Err}
use Rattle.link_io.specs.Target.{address_of}
use Rattle.link_io.specs.declared.link.Target.{Target}
use Rattle.hub_io.specs.declared.hub.HubEvent.{HubEvent}
use Rattle.hub_io.specs.declared.hub.HubEvent.TheVariants as one
use Rattle.many_history.specs.Events as history
use Rattle.many_io.specs.Record.{ManyCall, Opened, Told, ToldRoom, ToldModemRoom, ToldStop, NextFailed, Sent, SendFailed, SentModem, SendModemFailed, Reopened, ReopenFailed}
use Rattle.many_io.specs.declared.hub.ManyHubEvent.{ManyHubEvent}
use Rattle.many_io.specs.declared.hub.ManyHubEvent.TheVariants.{Joined, Piece, Left, ModemPiece, ModemGone, Now, Room, ModemRoom, Stop}

-- ---- what is answered ----

-- an event whose device isn't named
abbrev pub told_without_device : ManyHubEvent → HubEvent
told_without_device (Joined conn) = one.Joined conn
told_without_device (Piece conn size) = one.Piece conn size
told_without_device (Left conn) = one.Left conn
told_without_device (ModemPiece device size) = one.ModemPiece size
told_without_device (ModemGone device) = one.ModemGone
told_without_device (Now time) = one.Now time
told_without_device (Room conn) = one.Room conn
told_without_device (ModemRoom device) = one.ModemRoom
told_without_device Stop = one.Stop

-- where it is of a modem, that is the modem of one of so many devices
abbrev pub IsOfDevice : ManyHubEvent → ℕ → Type 0
IsOfDevice (ModemPiece device size) count = device < count
IsOfDevice (ModemGone device) count = device < count
IsOfDevice (ModemRoom device) count = device < count
IsOfDevice _ count = Unit {0}

-- ---- what is recorded ----

-- an opening, by the path of its socket and the addresses of its devices
abbrev pub opened_call : {T E : Type 0} → Result T E → List ℕ → List Target → ManyCall
opened_call (Ok t) socket targets = Opened socket (map address_of targets) true
opened_call (Err e) socket targets = Opened socket (map address_of targets) false

-- an event, which left these bytes in the buffer
abbrev pub event_call : ManyHubEvent → List ℕ → ManyCall
event_call (Joined conn) buffer = Told (history.Joined conn)
event_call (Piece conn size) buffer = Told (history.Piece conn (take size buffer))
event_call (Left conn) buffer = Told (history.Left conn)
event_call (ModemPiece device size) buffer = Told (history.ModemPiece device (take size buffer))
event_call (ModemGone device) buffer = Told (history.ModemGone device)
event_call (Now time) buffer = Told (history.Now time)
event_call (Room conn) buffer = ToldRoom conn
event_call (ModemRoom device) buffer = ToldModemRoom device
event_call Stop buffer = ToldStop

abbrev pub next_call : {E : Type 0} → Result ManyHubEvent E → List ℕ → ManyCall
next_call (Ok event) buffer = event_call event buffer
next_call (Err e) buffer = NextFailed

abbrev pub send_call : {E : Type 0} → Result ℕ E → ℕ → List ℕ → ManyCall
send_call (Ok taken) conn bytes = Sent conn bytes taken
send_call (Err e) conn bytes = SendFailed conn bytes

abbrev pub send_modem_call : {E : Type 0} → Result ℕ E → ℕ → List ℕ → ManyCall
send_modem_call (Ok taken) device bytes = SentModem device bytes taken
send_modem_call (Err e) device bytes = SendModemFailed device bytes

abbrev pub reopen_call : {T E : Type 0} → Result T E → ℕ → ManyCall
reopen_call (Ok t) device = Reopened device
reopen_call (Err e) device = ReopenFailed device
