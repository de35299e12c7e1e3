-- The bytes of the clients and of the modem, and the messages that they are cut into. A list of events has the newest first.
-- `size` is the protocol's framing: what the first bytes of a message say of its length.
use Rattle.std.specs.Prelude.{ℕ, Bool, ◌==◌, if◌then◌else◌, List, [], ◌∷◌, ◌++◌, length, drop, Option, Some, None}
use Rattle.framing.specs.declared.framing.Size.{Size}
pub use Rattle.framing.specs.Framing.{is_invalid}
use Rattle.framing.specs.Cutting.{cut}
use Rattle.proxy_history.specs.Events.{Event, Joined, Piece, ModemPiece, ModemGone, ModemBack}

-- a protocol's framing
abbrev pub Framing : Type 0
Framing = List ℕ → Size

-- the messages that are whole with the piece and weren't without it
abbrev pub messages_of_piece : Framing → List ℕ → List ℕ → List (List ℕ)
messages_of_piece size before piece = drop (length (cut size before).messages) (cut size (before ++ piece)).messages

-- behind its whole messages the stream goes on with bytes that begin none
abbrev pub is_bad : Framing → List ℕ → Bool
is_bad size stream = is_invalid (size (cut size stream).rest)

-- the bytes of a connection since it joined
unfoldable pub stream : ℕ → List Event → List ℕ
stream c [] = []
stream c (Joined d ∷ events) = if d == c then [] else stream c events
stream c (Piece d bytes ∷ events) = if d == c then stream c events ++ bytes else stream c events
stream c (_ ∷ events) = stream c events

-- ---- the modem: its bytes since the opening or its last return, and None while it is away ----

-- a modem whose stream went bad is away; what a modem sends that is away doesn't count
abbrev pub with_piece : Framing → List ℕ → Option (List ℕ) → Option (List ℕ)
with_piece size piece None = None
with_piece size piece (Some before) = if is_bad size (before ++ piece) then None else Some (before ++ piece)

-- a modem that comes back begins a fresh stream
abbrev pub come_back : Option (List ℕ) → Option (List ℕ)
come_back None = Some []
come_back (Some bytes) = Some bytes

unfoldable pub modem_stream : Framing → Bool → List Event → Option (List ℕ)
modem_stream size away [] = if away then None else Some []
modem_stream size away (ModemPiece piece ∷ events) = with_piece size piece (modem_stream size away events)
modem_stream size away (ModemGone ∷ events) = None
modem_stream size away (ModemBack ∷ events) = come_back (modem_stream size away events)
modem_stream size away (_ ∷ events) = modem_stream size away events
