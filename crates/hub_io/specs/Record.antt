-- What a hub recorded of the calls that were made on it, and the events in it. A record of calls has the newest first, as a list of events has.
use Rattle.std.specs.Prelude.{◌≡◌, ℕ, zero, suc, Bool, List, [], ◌∷◌, ◌++◌, Option, Some, None}
use Rattle.link_io.specs.Target.{Address}
use Rattle.proxy_history.specs.Events.{Event, Left, ModemGone, ModemBack, Took, ModemTook}

pub data Call : Type 0 where
  -- ---- `next` answered ----
  Told : (event : Event) → Call
  -- a client's socket, or the modem, takes bytes again
  ToldRoom : (conn : ℕ) → Call
  ToldModemRoom : Call
  ToldStop : Call
  NextFailed : Call
  -- ---- bytes were handed to a client's socket or to the modem, which took so many of them ----
  Sent : (conn : ℕ) → (bytes : List ℕ) → (taken : ℕ) → Call
  SendFailed : (conn : ℕ) → (bytes : List ℕ) → Call
  SentModem : (bytes : List ℕ) → (taken : ℕ) → Call
  SendModemFailed : (bytes : List ℕ) → Call
  -- ---- what else was asked of the hub ----
  -- to listen on this socket and to open this device, and whether it answered Ok; the device's address is None where none was named
  Opened : (socket : List ℕ) (device : Option Address) (ok : Bool) → Call
  -- to wait for the pumps of the device, and whether it answered Ok
  Paired : (ok : Bool) → Call
  Reopened : Call
  ReopenFailed : Call
  HungUp : (conn : ℕ) → Call

-- who took nothing wasn't there to take: no event
abbrev pub taking : (ℕ → Event) → ℕ → List Event → List Event
taking event zero events = events
taking event (suc count) events = event (suc count) ∷ events

-- the events in a record
unfoldable pub events : List Call → List Event
events [] = []
events (Told event ∷ calls) = event ∷ events calls
events (Sent c bytes taken ∷ calls) = taking (λ count. Took c count) taken (events calls)
events (SendFailed c bytes ∷ calls) = Left c ∷ events calls
events (SentModem bytes taken ∷ calls) = taking (λ count. ModemTook count) taken (events calls)
events (SendModemFailed bytes ∷ calls) = ModemGone ∷ events calls
events (Reopened ∷ calls) = ModemBack ∷ events calls
events (_ ∷ calls) = events calls

-- ---- a record of calls that grows, until its hub tells nothing any more: the newer record is None from then on ----

-- the calls recorded since then have this property, where the hub tells them
abbrev pub Since : {A : Type 0} → Option (List A) → Option (List A) → (List A → Type 0) → Type 0
Since old None P = Unit {0}
Since None (Some new) P = ⊥
Since {A = A} (Some old) (Some new) P = (calls : List A) × (new ≡ calls ++ old) × P calls

-- this one call was recorded since then
abbrev pub Records : {A : Type 0} → Option (List A) → A → Option (List A) → Type 0
Records old call None = Unit {0}
Records None call (Some new) = ⊥
Records (Some old) call (Some new) = new ≡ call ∷ old

-- ---- the law that the events of a record are those of its parts ----

abbrev pub EventsOfAppended : Type 0
EventsOfAppended = (later earlier : List Call) → events (later ++ earlier) ≡ events later ++ events earlier
