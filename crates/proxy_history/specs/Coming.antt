-- The events that may come: the names of those who join rise, pieces are short, and no more is taken than waits. A list of events has the newest first.
use Rattle.std.specs.Prelude.{ℕ, ◌≤◌, ◌<◌, max, List, [], ◌∷◌, length, if◌then◌else◌}
use Rattle.proxy_history.specs.Events.{Event, Joined, Piece, ModemPiece, Took, ModemTook}
use Rattle.proxy_history.specs.Connections.{is_present}
use Rattle.proxy_history.specs.Protocol.{Protocol}
use Rattle.proxy_history.specs.History.{history, text_for, modem_queue}

-- a piece has at most so many bytes
abbrev pub piece_limit : ℕ
piece_limit = 16384

-- the greatest name that joined, 0 where none did
abbrev pub greatest_name : List Event → ℕ
greatest_name [] = 0
greatest_name (Joined c ∷ events) = max c (greatest_name events)
greatest_name (_ ∷ events) = greatest_name events

-- how many bytes wait for a connection that is there; for one that isn't none do
abbrev pub queued_for : {Known : Type 0} → Protocol Known → ℕ → List Event → ℕ
queued_for p c events = if is_present c (history p events) then length (text_for p c events).waiting else 0

-- an event may follow these events
abbrev pub MayCome : {Known : Type 0} → Protocol Known → Event → List Event → Type 0
MayCome p (Joined c) events = greatest_name events < c
MayCome p (Piece c bytes) events = length bytes ≤ piece_limit
MayCome p (ModemPiece bytes) events = length bytes ≤ piece_limit
MayCome p (Took c count) events = count ≤ queued_for p c events
MayCome p (ModemTook count) events = count ≤ length (modem_queue p events)
MayCome p _ events = Unit {0}

abbrev pub AreSound : {Known : Type 0} → Protocol Known → List Event → Type 0
AreSound p [] = Unit {0}
AreSound p (event ∷ events) = MayCome p event events × AreSound p events
