-- What a client of a proxy would meet if it were alone with the modem, made from what all clients met: its own events, those of the clock,
-- what the modem says to it, and that the modem is lost or comes back.
-- Lists of events and of facts have the newest first. `solo` stands for the events that the client has met alone so far, and `past` for the
-- history of all just before an item.
use Rattle.std.specs.Prelude.{ℕ, zero, suc, Bool, true, false, ◌==◌, nat_le, if◌then◌else◌, List, [], ◌∷◌, ◌++◌, length, take, drop, Option, Some, None}
use Rattle.proxy_history.specs.Events.{Event, Joined, Piece, Left, ModemPiece, ModemGone, ModemBack, Now, Took, ModemTook}
use Rattle.proxy_history.specs.Streams.{stream}
use Rattle.proxy_history.specs.Items.{Item, ModemIsLost, client_items, items_of}
use Rattle.proxy_history.specs.Facts.{Fact, EventBegan}
use Rattle.proxy_history.specs.Protocol.{Protocol}
use Rattle.proxy_history.specs.History.{add, add_all, history, modem_queue}
pub use Rattle.proxy_history.specs.Coming.{piece_limit}
use Rattle.proxy_solo.specs.Alone.{Alone}

-- ---- a modem that takes at once all that waits for it ----

-- a taking of no byte is no event
abbrev pub take_all : ℕ → List Event → List Event
take_all zero solo = solo
take_all (suc count) solo = ModemTook (suc count) ∷ solo

abbrev pub taken : {Known : Type 0} → Protocol Known → List Event → List Event
taken p solo = take_all (length (modem_queue p solo)) solo

-- it may answer the proxy itself
abbrev pub answered : {Known : Type 0} → Protocol Known → Option (List ℕ) → List Event → List Event
answered p None solo = solo
answered p (Some answer) solo = taken p (ModemPiece answer ∷ solo)

abbrev pub settled : {Known : Type 0} → Protocol Known → Alone → List Event → List Event
settled p a solo = answered p (a.answers (history p solo)) solo

-- an event, and then the modem's taking of all that waits for it and its answer to the proxy itself
abbrev pub meet : {Known : Type 0} → Protocol Known → Alone → Event → List Event → List Event
meet p a event solo = settled p a (taken p (event ∷ solo))

abbrev pub meet_if : {Known : Type 0} → Bool → Protocol Known → Alone → Event → List Event → List Event
meet_if true p a event solo = meet p a event solo
meet_if false p a event solo = solo

-- ---- what the modem says to the client, in pieces of its own ----

-- the bytes in pieces; the first argument bounds their number, and as many as there are bytes are always enough
unfoldable pub pieces_of : ℕ → List ℕ → List (List ℕ)
pieces_of zero bytes = bytes ∷ []
pieces_of (suc count) bytes =
    elim (nat_le (length bytes) piece_limit) [ true ↦ bytes ∷ [] | false ↦ take piece_limit bytes ∷ pieces_of count (drop piece_limit bytes) ]

unfoldable pub meet_pieces : {Known : Type 0} → Protocol Known → Alone → List (List ℕ) → List Event → List Event
meet_pieces p a [] solo = solo
meet_pieces p a (piece ∷ pieces) solo = meet_pieces p a pieces (meet p a (ModemPiece piece) solo)

abbrev pub meet_bytes : {Known : Type 0} → Protocol Known → Alone → Option (List ℕ) → List Event → List Event
meet_bytes p a None solo = solo
meet_bytes p a (Some bytes) solo = meet_pieces p a (pieces_of (length bytes) bytes) solo

-- with each of these items in turn
unfoldable pub hear_all : {Known : Type 0} → Protocol Known → Alone → ℕ → List Item → List Fact → List Event → List Event
hear_all p a c [] past solo = solo
hear_all p a c (item ∷ items) past solo = hear_all p a c items (add p item past) (meet_bytes p a (a.hears c item past (history p solo)) solo)

-- ---- what the client itself sends ----

-- part by part, and behind each part what the modem says with it; `before` are the client's bytes before them
unfoldable pub meet_parts : {Known : Type 0} → Protocol Known → Alone → ℕ → (before : List ℕ) → (parts : List (List ℕ)) → List Fact → List Event → List Event
meet_parts p a c before [] past solo = solo
meet_parts p a c before (part ∷ parts) past solo =
    meet_parts p a c (before ++ part) parts (add_all p (client_items p.size c before part) past)
    (hear_all p a c (client_items p.size c before part) past (meet p a (Piece c part) solo))

-- ---- every event ----

-- the modem is gone, or its stream went bad
abbrev pub fails : List Item → Bool
fails [] = false
fails (ModemIsLost ∷ items) = true
fails (_ ∷ items) = fails items

-- the modem speaks before what it says with an event
abbrev pub hear_event : {Known : Type 0} → Protocol Known → Alone → ℕ → List Event → Event → List Event → List Event
hear_event p a c events event solo = hear_all p a c (items_of p events event) (EventBegan ∷ history p events) solo

abbrev pub meet_own : {Known : Type 0} → Protocol Known → Alone → ℕ → List Event → (bytes : List ℕ) → List Event → List Event
meet_own p a c events bytes solo = meet_parts p a c (stream c events) (a.parts (stream c events) bytes) (EventBegan ∷ history p events) solo

-- what the client meets of an event that follows these events: its own, and not what others do; the modem's takings are those of `meet`, and a stream of it that went bad is a loss
abbrev pub meet_event : {Known : Type 0} → Protocol Known → Alone → ℕ → List Event → Event → List Event → List Event
meet_event p a c events (Joined d) solo = meet_if (d == c) p a (Joined d) solo
meet_event p a c events (Piece d bytes) solo = if d == c then meet_own p a c events bytes solo else solo
meet_event p a c events (Left d) solo = meet_if (d == c) p a (Left d) solo
meet_event p a c events (Took d count) solo = meet_if (d == c) p a (Took d count) solo
meet_event p a c events (ModemPiece bytes) solo = meet_if (fails (items_of p events (ModemPiece bytes))) p a ModemGone (hear_event p a c events (ModemPiece bytes) solo)
meet_event p a c events ModemGone solo = meet p a ModemGone (hear_event p a c events ModemGone solo)
meet_event p a c events ModemBack solo = meet p a ModemBack solo
meet_event p a c events (Now time) solo = meet p a (Now time) (hear_event p a c events (Now time) solo)
meet_event p a c events (ModemTook count) solo = solo

-- what it would meet alone, of all these events
unfoldable pub solo : {Known : Type 0} → Protocol Known → Alone → ℕ → List Event → List Event
solo p a c [] = []
solo p a c (event ∷ events) = meet_event p a c events event (solo p a c events)
