-- What an event comes to once its bytes are cut into messages, and the modem's fragments are joined.
-- A list of events has the newest first; the items of an event stand in their order.
use Rattle.std.specs.Prelude.{ℕ, Bool, true, false, List, [], ◌∷◌, ◌++◌, map, drop, length, Option, Some, None}
use Rattle.framing.specs.Cutting.{cut}
use Rattle.proxy_history.specs.Events.{Event, Joined, Piece, Left, ModemPiece, ModemGone, ModemBack, Now, Took, ModemTook}
use Rattle.proxy_history.specs.Streams.{Framing, messages_of_piece, is_bad, stream, modem_stream}
use Rattle.proxy_history.specs.Protocol.{Protocol}

pub data Item : Type 0 where
  Joins : (conn : ℕ) → Item
  -- a whole message of a client
  Says : (conn : ℕ) → (message : List ℕ) → Item
  -- a client's stream went bad
  GoesBad : (conn : ℕ) → Item
  Leaves : (conn : ℕ) → Item
  -- a whole message of the modem
  ModemSays : (message : List ℕ) → Item
  -- the modem is gone, or its stream went bad
  ModemIsLost : Item
  ModemReturns : Item
  ClockShows : (time : ℕ) → Item
  Takes : (conn : ℕ) → (count : ℕ) → Item
  ModemTakes : (count : ℕ) → Item

abbrev pub item_if : Bool → Item → List Item
item_if true item = item ∷ []
item_if false item = []

-- a piece behind the stream so far
abbrev pub client_items : Framing → ℕ → List ℕ → List ℕ → List Item
client_items size c before piece =
    map (λ m. Says c m) (messages_of_piece size before piece) ++ item_if (is_bad size (before ++ piece)) (GoesBad c)

-- all that the modem said on a stream
abbrev pub delivered : {Known : Type 0} → Protocol Known → List ℕ → List (List ℕ)
delivered p stream = p.deliver (cut p.size stream).messages

-- what it says with a piece and didn't say without it
abbrev pub delivered_by_piece : {Known : Type 0} → Protocol Known → List ℕ → List ℕ → List (List ℕ)
delivered_by_piece p before piece = drop (length (delivered p before)) (delivered p (before ++ piece))

abbrev pub modem_items : {Known : Type 0} → Protocol Known → List ℕ → Option (List ℕ) → List Item
modem_items p piece None = []
modem_items p piece (Some before) =
    map (λ m. ModemSays m) (delivered_by_piece p before piece) ++ item_if (is_bad p.size (before ++ piece)) ModemIsLost

abbrev pub is_lost_once : Option (List ℕ) → List Item
is_lost_once None = []
is_lost_once (Some bytes) = ModemIsLost ∷ []

abbrev pub returns_once : Option (List ℕ) → List Item
returns_once None = ModemReturns ∷ []
returns_once (Some bytes) = []

-- the items of an event that follows these events
abbrev pub items_of : {Known : Type 0} → Protocol Known → List Event → Event → List Item
items_of p events (Joined c) = Joins c ∷ []
items_of p events (Piece c bytes) = client_items p.size c (stream c events) bytes
items_of p events (Left c) = Leaves c ∷ []
items_of p events (ModemPiece bytes) = modem_items p bytes (modem_stream p.size p.starts_away events)
items_of p events ModemGone = is_lost_once (modem_stream p.size p.starts_away events)
items_of p events ModemBack = returns_once (modem_stream p.size p.starts_away events)
items_of p events (Now time) = ClockShows time ∷ []
items_of p events (Took c count) = Takes c count ∷ []
items_of p events (ModemTook count) = ModemTakes count ∷ []
