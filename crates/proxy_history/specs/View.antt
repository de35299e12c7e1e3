-- What one client can know: its own messages and takings, and what came for it. A view has the newest entry first, as the facts do.
-- No entry has a transaction number of the proxy, a connection's name or another client's message.
use Rattle.std.specs.Prelude.{ℕ, ◌+◌, Bool, true, false, ◌==◌, if◌then◌else◌, List, [], ◌∷◌}
use Rattle.proxy_history.specs.Facts.{Why, NotAdmitted, BadStream, Leaving, Verdict, Fact, Admitted, Ended, Judged, Taken, Answered, IdHeld, Expired, Aborted, Indicated, OpeningEnded, SessionsClosed}
use Rattle.proxy_history.specs.Connections.{contains}

-- why a forwarded request got a refusal in place of an answer
pub data Cause : Type 0 where
  -- the modem's answer names a client id that another connection holds
  HeldId : Cause
  -- no answer came in time, or none will come
  NoAnswer : Cause

pub data Entry : Type 0 where
  Said : (message : List ℕ) → (verdict : Verdict) → Entry
  -- the modem's answer to the client's message of this place, with its number left blank
  Response : (place : ℕ) → (message : List ℕ) → Entry
  Refused : (place : ℕ) → (cause : Cause) → Entry
  Indication : (message : List ℕ) → Entry
  -- the client's waiting request to open the modem was answered with this status
  OpenedWith : (status : ℕ) → Entry
  -- a loss of the modem closed its session
  Shut : Entry
  -- the client's socket took so many bytes
  Taking : (count : ℕ) → Entry
  End : (why : Why) → Entry

abbrev pub entry_if : Bool → Entry → List Entry → List Entry
entry_if true entry entries = entry ∷ entries
entry_if false entry entries = entries

-- a message without its transaction number
abbrev pub Blank : Type 0
Blank = List ℕ → List ℕ

-- the view of a connection; `blank` leaves out a message's number.
-- One that ended for want of room has no last entry that says so: its rendering stops where the room did.
unfoldable pub view : Blank → ℕ → List Fact → List Entry
view blank c [] = []
view blank c (Admitted d ∷ past) = if d == c then [] else view blank c past
view blank c (Judged d place message verdict ∷ past) = entry_if (d == c) (Said message verdict) (view blank c past)
view blank c (Answered r message ∷ past) = entry_if (r.conn == c) (Response r.place (blank message)) (view blank c past)
view blank c (IdHeld r ∷ past) = entry_if (r.conn == c) (Refused r.place HeldId) (view blank c past)
view blank c (Expired r ∷ past) = entry_if (r.conn == c) (Refused r.place NoAnswer) (view blank c past)
view blank c (Aborted r ∷ past) = entry_if (r.conn == c) (Refused r.place NoAnswer) (view blank c past)
view blank c (Indicated message receivers ∷ past) = entry_if (contains c receivers) (Indication message) (view blank c past)
view blank c (OpeningEnded status receivers ∷ past) = entry_if (contains c receivers) (OpenedWith status) (view blank c past)
view blank c (SessionsClosed receivers ∷ past) = entry_if (contains c receivers) Shut (view blank c past)
view blank c (Taken d count ∷ past) = entry_if (d == c) (Taking count) (view blank c past)
view blank c (Ended d NotAdmitted ∷ past) = if d == c then End NotAdmitted ∷ [] else view blank c past
view blank c (Ended d BadStream ∷ past) = entry_if (d == c) (End BadStream) (view blank c past)
view blank c (Ended d Leaving ∷ past) = entry_if (d == c) (End Leaving) (view blank c past)
view blank c (_ ∷ past) = view blank c past

-- how many messages the client sent
abbrev pub said_count : List Entry → ℕ
said_count [] = 0
said_count (Said message verdict ∷ entries) = said_count entries + 1
said_count (_ ∷ entries) = said_count entries

-- the client's message of this place, counted from 1
abbrev pub said_at : ℕ → List Entry → List ℕ
said_at place [] = []
said_at place (Said message verdict ∷ entries) = if said_count entries + 1 == place then message else said_at place entries
said_at place (_ ∷ entries) = said_at place entries
