-- What a core of a proxy stands for. Lists of events and of facts have the newest first; all other lists have the oldest first.
-- `Known` is what a client's own view tells of it.
use Rattle.std.specs.Prelude.{◌≡◌, ℕ, ◌<◌, ◌≤◌, Bool, ◌||◌, ◌==◌, List, [], ◌++◌, length, map, Option, Some, None, is_some}
use Rattle.std.specs.List.{AllByRecursion, IsDistinct}
use Rattle.framing.specs.Cutting.{cut}
use Rattle.connections.specs.Table.{Connection, connection_in, queue_of, asked, first_dropped}
use Rattle.proxy_history.specs.Events.{Event, Joined, Piece, ModemPiece, Took, ModemTook}
use Rattle.proxy_history.specs.Streams.{Framing, stream, modem_stream}
use Rattle.proxy_history.specs.Facts.{Fact}
use Rattle.proxy_history.specs.Connections.{present, dropped, contains}
use Rattle.proxy_history.specs.Noting.{rendering}
use Rattle.proxy_history.specs.Protocol.{Protocol}
use Rattle.proxy_history.specs.History.{known_of, history}
use Rattle.proxy_history.specs.Coming.{greatest_name, piece_limit, AreSound}
use Rattle.proxy_state.specs.State.{State, Core, DroppedClient, dropped_clients_in, Handlers}

-- ---- what of its events a core keeps ----

pub record Kept (Known T S : Type 0) : Type 0 where
  -- of a client, from what its view tells
  pub client : Known → T
  -- beside the connections, from the whole messages of the modem's stream and from the history
  pub beside : List (List ℕ) → List Fact → S

-- of a client, beside its stream
pub record ClientState (T : Type 0) : Type 0 where
  pub client : T
  pub waiting : List ℕ
  -- whether bytes lacked room; no connection that is there has this
  pub is_over : Bool

abbrev pub client_state_of : {Known T S : Type 0} → Protocol Known → Kept Known T S → List Fact → ℕ → ClientState T
client_state_of p k past c = record {
  client = k.client (known_of p c past);
  waiting = (rendering p.limits p.wording c past).waiting;
  is_over = (rendering p.limits p.wording c past).is_over;
}

-- `room` is how many bytes may wait for it, and `rest` what is left of its stream
abbrev pub connection_as : {T : Type 0} → (room : ℕ) → (rest : List ℕ) → ℕ → ClientState T → Connection T
connection_as room rest c a = record { name = c; client = a.client; rest = rest; outbox = record { bytes = a.waiting; capacity = room } }

-- `rests` gives what is left of each stream
unfoldable pub connection_of : {Known T S : Type 0} → Protocol Known → Kept Known T S → (rests : ℕ → List ℕ) → List Fact → ℕ → Connection T
connection_of p k rests past c = connection_as p.limits.outbox (rests c) c (client_state_of p k past c)

abbrev pub dropped_client_of : {Known : Type 0} → Protocol Known → List Fact → ℕ → DroppedClient
dropped_client_of p past c = record { name = c; waiting = (rendering p.limits p.wording c past).waiting }

-- ---- streams ----

-- what is left of each client's stream behind its whole messages
abbrev pub rests_of : {Known : Type 0} → Protocol Known → List Event → ℕ → List ℕ
rests_of p events c = (cut p.size (stream c events)).rest

abbrev pub modem_stream_of : {Known : Type 0} → Protocol Known → List Event → Option (List ℕ)
modem_stream_of p events = modem_stream p.size p.starts_away events

-- the whole messages of the modem's stream and what is left behind them; nothing while it is away
abbrev pub messages_in : Framing → Option (List ℕ) → List (List ℕ)
messages_in size None = []
messages_in size (Some bytes) = (cut size bytes).messages

abbrev pub rest_in : Framing → Option (List ℕ) → List ℕ
rest_in size None = []
rest_in size (Some bytes) = (cut size bytes).rest

-- what the events say beside their facts
pub record Streams : Type 0 where
  -- the greatest name that joined
  pub greatest : ℕ
  -- what is left of each client's stream
  pub rests : ℕ → List ℕ
  -- the whole messages of the modem's stream
  pub messages : List (List ℕ)

abbrev pub streams_of : {Known : Type 0} → Protocol Known → List Event → Streams
streams_of p events = record { greatest = greatest_name events; rests = rests_of p events; messages = messages_in p.size (modem_stream_of p events) }

-- ---- what a core stands for ----

abbrev pub IsSuffix : {X : Type 0} → List X → List X → Type 0
IsSuffix {X} suffix list = (front : List X) × (front ++ suffix ≡ list)

-- names are known, and no two are the same
pub record AreNames (greatest : ℕ) (names : List ℕ) : Type 0 where
  pub known : AllByRecursion (λ c. c ≤ greatest) names
  pub distinct : IsDistinct (λ c d. c == d) names

-- the connections that are there, and what is kept beside them, are those of the history
pub record HoldsOf {Known T S : Type 0} (p : Protocol Known) (k : Kept Known T S) (streams : Streams) (past : List Fact) (x : State T S) : Type 0 where
  -- in order of joining
  pub connections : x.table.present ≡ map (connection_of p k streams.rests past) (present past)
  pub beside : x.beside ≡ k.beside streams.messages past
  pub greatest : x.table.greatest ≡ streams.greatest
  pub limit : x.table.limit ≡ p.limits.connections
  pub room : x.table.room ≡ p.limits.outbox
  pub names : AreNames streams.greatest (present past)

-- a core that met these events, the newest first; of the dropped names some may have been asked for
pub record Stands {Known T S : Type 0} (p : Protocol Known) (k : Kept Known T S) (events : List Event) (core : Core T S) : Type 0 where
  pub holds : HoldsOf p k (streams_of p events) (history p events) core.state
  -- in order of dropping
  pub dropped_clients : IsSuffix (dropped_clients_in core.state.table.dropped) (map (dropped_client_of p (history p events)) (dropped (history p events)))
  pub rest : core.rest ≡ rest_in p.size (modem_stream_of p events)
  -- it met none that may not come
  pub sound : AreSound p events

-- just after the newest of these events: all names that it dropped are still to be asked for
pub record StandsAfter {Known T S : Type 0} (p : Protocol Known) (k : Kept Known T S) (events : List Event) (core : Core T S) : Type 0 where
  pub stands : Stands p k events core
  pub all_dropped : dropped_clients_in core.state.table.dropped ≡ map (dropped_client_of p (history p events)) (dropped (history p events))

-- ---- the bytes that wait ----

abbrev pub waiting_for : {T S : Type 0} → ℕ → Core T S → List ℕ
waiting_for c core = queue_of c core.state.table

-- the connection is there, or was dropped and isn't asked for yet
abbrev pub is_owed : {T S : Type 0} → ℕ → Core T S → Bool
is_owed c core = is_some (connection_in c core.state.table.present) || contains c (map (λ d. d.name) core.state.table.dropped)

-- ---- the events that may come ----

abbrev pub MayMeet : {T S : Type 0} → Handlers T S → Event → Core T S → Type 0
MayMeet h (Joined c) core = core.state.table.greatest < c
MayMeet h (Piece c bytes) core = length bytes ≤ piece_limit
MayMeet h (ModemPiece bytes) core = length bytes ≤ piece_limit
MayMeet h (Took c count) core = count ≤ length (waiting_for c core)
MayMeet h (ModemTook count) core = count ≤ length (h.modem_queue core.state.beside)
MayMeet h _ core = Unit {0}

pub record CanStep {T S : Type 0} (h : Handlers T S) (event : Event) (core : Core T S) : Type 0 where
  -- each connection that was dropped has been asked for
  pub hung_up : core.state.table.dropped ≡ []
  pub may_come : MayMeet h event core

-- ---- what a core tells ----

abbrev pub names_of : {T S : Type 0} → Core T S → List ℕ
names_of {T} core = map (λ (k : Connection T). k.name) core.state.table.present

-- the first of the dropped connections is asked for
pub record NextDropped {T S : Type 0} (old new : Core T S) (result : Option ℕ) : Type 0 where
  pub first : result ≡ first_dropped old.state.table.dropped
  pub asked : new ≡ record old { state = record old.state { table = asked old.state.table } }
