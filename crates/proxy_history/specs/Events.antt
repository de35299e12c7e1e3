-- What a proxy meets: its events as values. A list of events has the newest first.
use Rattle.std.specs.Prelude.{ℕ, Bool, true, false, not, ◌==◌, List}

pub data Event : Type 0 where
  -- a client connected
  Joined : (conn : ℕ) → Event
  -- bytes of a client
  Piece : (conn : ℕ) → (bytes : List ℕ) → Event
  -- a client is gone
  Left : (conn : ℕ) → Event
  ModemPiece : (bytes : List ℕ) → Event
  ModemGone : Event
  ModemBack : Event
  -- the clock, in milliseconds
  Now : (time : ℕ) → Event
  -- a client's socket took so many of the bytes that were queued for it
  Took : (conn : ℕ) → (count : ℕ) → Event
  ModemTook : (count : ℕ) → Event

-- ---- what an event is about ----

-- the client joins, or its socket takes bytes
abbrev pub joins_or_takes : ℕ → Event → Bool
joins_or_takes c (Joined d) = d == c
joins_or_takes c (Took d count) = d == c
joins_or_takes c _ = false

-- another client joins, sends, leaves or takes
abbrev pub is_anothers : ℕ → Event → Bool
is_anothers c (Joined d) = not (d == c)
is_anothers c (Piece d bytes) = not (d == c)
is_anothers c (Left d) = not (d == c)
is_anothers c (Took d count) = not (d == c)
is_anothers c _ = false

abbrev pub modem_takes : Event → Bool
modem_takes (ModemTook count) = true
modem_takes _ = false

-- the greatest name that joined, once the event was met
abbrev pub greatest_after : Event → ℕ → ℕ
greatest_after (Joined c) greatest = c
greatest_after _ greatest = greatest
