-- What a hub of several devices recorded of the calls that were made on it, and the events in it. Records and lists of events have the newest first.
use Rattle.std.specs.Prelude.{ℕ, zero, suc, Bool, List, [], ◌∷◌, map, Option, Some, None}
use Rattle.link_io.specs.Target.{Address}
use Rattle.proxy_history.specs.Events.{Event}
use Rattle.proxy_history.specs.Events as one
use Rattle.hub_io.specs.Record.{Call}
use Rattle.hub_io.specs.Record as one_call
use Rattle.many_history.specs.Events.{ManyEvent, Joined, Piece, Left, Took, ModemPiece, ModemGone, ModemBack, ModemTook, Now}

pub data ManyCall : Type 0 where
  -- ---- `next` answered ----
  Told : (event : ManyEvent) → ManyCall
  -- a client's socket, or a modem, takes bytes again
  ToldRoom : (conn : ℕ) → ManyCall
  ToldModemRoom : (device : ℕ) → ManyCall
  ToldStop : ManyCall
  NextFailed : ManyCall
  -- ---- bytes were handed to a client's socket or to a modem, which took so many of them ----
  Sent : (conn : ℕ) → (bytes : List ℕ) → (taken : ℕ) → ManyCall
  SendFailed : (conn : ℕ) → (bytes : List ℕ) → ManyCall
  SentModem : (device : ℕ) → (bytes : List ℕ) → (taken : ℕ) → ManyCall
  SendModemFailed : (device : ℕ) → (bytes : List ℕ) → ManyCall
  -- ---- what else was asked of the hub ----
  Opened : (socket : List ℕ) (devices : List Address) (ok : Bool) → ManyCall
  Paired : (ok : Bool) → ManyCall
  Reopened : (device : ℕ) → ManyCall
  ReopenFailed : (device : ℕ) → ManyCall
  HungUp : (conn : ℕ) → ManyCall

-- who took nothing wasn't there to take: no event
abbrev pub taking : (ℕ → ManyEvent) → ℕ → List ManyEvent → List ManyEvent
taking event zero events = events
taking event (suc count) events = event (suc count) ∷ events

unfoldable pub events : List ManyCall → List ManyEvent
events [] = []
events (Told event ∷ calls) = event ∷ events calls
events (Sent c bytes taken ∷ calls) = taking (λ count. Took c count) taken (events calls)
events (SendFailed c bytes ∷ calls) = Left c ∷ events calls
events (SentModem d bytes taken ∷ calls) = taking (λ count. ModemTook d count) taken (events calls)
events (SendModemFailed d bytes ∷ calls) = ModemGone d ∷ events calls
events (Reopened d ∷ calls) = ModemBack d ∷ events calls
events (_ ∷ calls) = events calls

-- ---- calls whose devices aren't named ----

abbrev pub without_device : ManyEvent → Event
without_device (Joined c) = one.Joined c
without_device (Piece c bytes) = one.Piece c bytes
without_device (Left c) = one.Left c
without_device (Took c count) = one.Took c count
without_device (ModemPiece d bytes) = one.ModemPiece bytes
without_device (ModemGone d) = one.ModemGone
without_device (ModemBack d) = one.ModemBack
without_device (ModemTook d count) = one.ModemTook count
without_device (Now time) = one.Now time

abbrev pub first_of : List Address → Option Address
first_of [] = None
first_of (device ∷ devices) = Some device

abbrev pub call_without_device : ManyCall → Call
call_without_device (Told event) = one_call.Told (without_device event)
call_without_device (ToldRoom c) = one_call.ToldRoom c
call_without_device (ToldModemRoom d) = one_call.ToldModemRoom
call_without_device ToldStop = one_call.ToldStop
call_without_device NextFailed = one_call.NextFailed
call_without_device (Sent c bytes taken) = one_call.Sent c bytes taken
call_without_device (SendFailed c bytes) = one_call.SendFailed c bytes
call_without_device (SentModem d bytes taken) = one_call.SentModem bytes taken
call_without_device (SendModemFailed d bytes) = one_call.SendModemFailed bytes
call_without_device (Opened socket devices ok) = one_call.Opened socket (first_of devices) ok
call_without_device (Paired ok) = one_call.Paired ok
call_without_device (Reopened d) = one_call.Reopened
call_without_device (ReopenFailed d) = one_call.ReopenFailed
call_without_device (HungUp c) = one_call.HungUp c

abbrev pub calls_without_device : List ManyCall → List Call
calls_without_device calls = map call_without_device calls
