-- What takes bring: marks, each at the take that completes it.
use Rattle.std.specs.Prelude.{ℕ, ◌+◌, List, [], ◌∷◌, ◌++◌, length, drop, Option, Some, None}
use Rattle.std.specs.List.{concat, filter_map}
use Rattle.framing.specs.declared.framing.Size.{Size}
use Rattle.framing.specs.declared.framing.Size.TheVariants.{Unknown, Known, Invalid}
use Rattle.framing.specs.Cutting.{Cutting, cut}
use Rattle.framing.specs.Reading.{place_of}
use Rattle.link_io.specs.Calls.{Call, Took, WasQuiet, WasEnd, TakeFailed}

-- a whole message, and its place in the stream
pub record Placed : Type 0 where
  pub place : ℕ
  pub bytes : List ℕ

pub data Mark : Type 0 where
  Message : (message : Placed) → Mark
  -- from this place on the bytes begin no message
  Bad : (place : ℕ) → Mark
  -- nothing came in a tick
  Quiet : Mark
  -- the other side has ended
  End : Mark
  -- the take failed
  Failed : Mark

abbrev pub message_in : Mark → Option Placed
message_in (Message message) = Some message
message_in _ = None

abbrev pub messages_in : List Mark → List Placed
messages_in marks = filter_map message_in marks

-- ---- the marks of a stream; `size` is its framing ----

-- messages that stand one after another from a place on
abbrev pub messages_from : ℕ → List (List ℕ) → List Mark
messages_from place [] = []
messages_from place (message ∷ messages) = Message (record { place = place_of place; bytes = message }) ∷ messages_from (place + length message) messages

-- bytes that say this of their message's length stand at a place
abbrev pub bad_at : ℕ → Size → List Mark
bad_at place Unknown = []
bad_at place (Known count) = []
bad_at place Invalid = Bad (place_of place) ∷ []

abbrev pub marks_of : (size : List ℕ → Size) → ℕ → Cutting → List Mark
marks_of size place cutting = messages_from place cutting.messages ++ bad_at (place + length (concat cutting.messages)) (size cutting.rest)

-- the messages of some bytes that stand from a place on, and whether they go on with bytes that begin none
unfoldable pub marks_from : (size : List ℕ → Size) → ℕ → List ℕ → List Mark
marks_from size place bytes = marks_of size place (cut size bytes)

-- ---- the marks of takes ----

-- a call of `take`, whatever it gave
abbrev pub IsTake : Call → Type 0
IsTake (Took piece) = Unit {0}
IsTake WasQuiet = Unit {0}
IsTake WasEnd = Unit {0}
IsTake TakeFailed = Unit {0}
IsTake _ = ⊥

-- what a stream has with a piece more, and hadn't without it
unfoldable pub piece_marks : (size : List ℕ → Size) → List ℕ → List ℕ → List Mark
piece_marks size stream piece = drop (length (marks_from size 0 stream)) (marks_from size 0 (stream ++ piece))

-- of takes that follow on these bytes of a stream
unfoldable pub take_marks : (size : List ℕ → Size) → List ℕ → List Call → List Mark
take_marks size stream [] = []
take_marks size stream (Took piece ∷ takes) = piece_marks size stream piece ++ take_marks size (stream ++ piece) takes
take_marks size stream (WasQuiet ∷ takes) = Quiet ∷ take_marks size stream takes
take_marks size stream (WasEnd ∷ takes) = End ∷ take_marks size stream takes
take_marks size stream (TakeFailed ∷ takes) = Failed ∷ take_marks size stream takes
take_marks size stream (_ ∷ takes) = take_marks size stream takes

-- the bytes that takes gave
unfoldable pub bytes_in : List Call → List ℕ
bytes_in [] = []
bytes_in (Took piece ∷ takes) = piece ++ bytes_in takes
bytes_in (_ ∷ takes) = bytes_in takes
