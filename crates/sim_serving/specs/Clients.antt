-- The clients of a simulated modem, what they ask and what they get, read off the events. Lists of events and of requests have the newest first.
-- `size` is the framing of the clients' streams, and `conduct` is how the modem behaves. Each telling of the time is a tick of the clock.
use Rattle.std.specs.Prelude.{ℕ, ◌+◌, Bool, false, ◌&&◌, ◌||◌, ◌==◌, if◌then◌else◌, List, [], ◌∷◌, ◌++◌, map, filter, drop, reverse}
use Rattle.std.specs.List.{flat_map}
use Rattle.proxy_history.specs.Events.{Event, Joined, Piece, Left, Now, Took}
use Rattle.proxy_history.specs.Streams.{Framing, stream, messages_of_piece, is_bad}
use Rattle.proxy_history.specs.Connections.{contains, without}
use Rattle.served_sim.specs.Conduct.{Conduct}

-- ---- at which message a modem hangs up ----

-- of these messages those up to the first at which it hangs up
unfoldable pub heeded : Conduct → List (List ℕ) → (before : List (List ℕ)) → List (List ℕ)
heeded conduct [] before = []
heeded conduct (message ∷ messages) before = message ∷ (if conduct.hangs_up before message then [] else heeded conduct messages (message ∷ before))

-- whether it hangs up at one of them
unfoldable pub hangs_up : Conduct → List (List ℕ) → (before : List (List ℕ)) → Bool
hangs_up conduct [] before = false
hangs_up conduct (message ∷ messages) before = conduct.hangs_up before message || hangs_up conduct messages (message ∷ before)

-- ---- who is there, and what is asked ----

-- a connection's message, which the modem is asked
pub record Request : Type 0 where
  pub conn : ℕ
  pub message : List ℕ

abbrev pub messages_of : List Request → List (List ℕ)
messages_of requests = map (λ r. r.message) requests

-- these are asked one after another, behind those before
unfoldable pub asks : {X : Type 0} → List X → (before : List X) → List X
asks others before = reverse others ++ before

pub record Session : Type 0 where
  -- the connections that joined, didn't leave, whose stream isn't bad and which the modem didn't hang up, in order of joining
  pub present : List ℕ
  -- all requests, in the order in which they became whole
  pub requests : List Request
  -- how often the clock has ticked
  pub ticks : ℕ

-- the stream is bad once the piece has come, or the modem hangs up at a message that is whole with it
abbrev pub ends_then : Framing → Conduct → ℕ → List ℕ → List Event → Session → Bool
ends_then size conduct c piece past before = is_bad size (stream c past ++ piece) || hangs_up conduct (messages_of_piece size (stream c past) piece) (messages_of before.requests)

-- the messages that are whole with the piece and weren't without it, up to the first at which the modem hangs up, also those in front of a bad place; none of a connection that isn't there
abbrev pub brought_then : Framing → Conduct → ℕ → List ℕ → List Event → Session → List (List ℕ)
brought_then size conduct c piece past before = if contains c before.present then heeded conduct (messages_of_piece size (stream c past) piece) (messages_of before.requests) else []

abbrev pub goes_on_by : Framing → Conduct → Event → List Event → Session → Session
goes_on_by size conduct (Joined c) past before = record before { present = before.present ++ c ∷ [] }
goes_on_by size conduct (Left c) past before = record before { present = without c before.present }
goes_on_by size conduct (Piece c piece) past before = record {
  present = if ends_then size conduct c piece past before then without c before.present else before.present;
  requests = asks (map (λ message. record { conn = c; message = message }) (brought_then size conduct c piece past before)) before.requests;
  ticks = before.ticks;
}
goes_on_by size conduct (Now time) past before = record before { ticks = before.ticks + 1 }
goes_on_by size conduct _ past before = before

unfoldable pub session : Framing → Conduct → List Event → Session
session size conduct [] = record { present = []; requests = []; ticks = 0 }
session size conduct (event ∷ past) = goes_on_by size conduct event past (session size conduct past)

abbrev pub present : Framing → Conduct → List Event → List ℕ
present size conduct past = (session size conduct past).present

abbrev pub requests : Framing → Conduct → List Event → List Request
requests size conduct past = (session size conduct past).requests

abbrev pub ticks : Framing → Conduct → List Event → ℕ
ticks size conduct past = (session size conduct past).ticks

abbrev pub is_ended : Framing → Conduct → ℕ → List ℕ → List Event → Bool
is_ended size conduct c piece past = ends_then size conduct c piece past (session size conduct past)

abbrev pub brought : Framing → Conduct → ℕ → List ℕ → List Event → List (List ℕ)
brought size conduct c piece past = brought_then size conduct c piece past (session size conduct past)

-- the connection that was there, and whose stream went bad or which the modem hung up by the last event
abbrev pub dropped : Framing → Conduct → List Event → List ℕ
dropped size conduct (Piece c piece ∷ past) = if contains c (present size conduct past) && is_ended size conduct c piece past then c ∷ [] else []
dropped size conduct _ = []

-- ---- what a client is owed ----

-- messages that are due at a tick of the clock
pub record Owed : Type 0 where
  pub due : ℕ
  pub messages : List ℕ

-- the answers to these messages, where those before were asked before them, and so many ticks have been
unfoldable pub promised : Conduct → (ticks : ℕ) → List (List ℕ) → (before : List (List ℕ)) → List Owed
promised conduct ticks [] before = []
promised conduct ticks (message ∷ messages) before = record { due = ticks + conduct.late before message; messages = conduct.answers before message } ∷ promised conduct ticks messages (message ∷ before)

-- of what is owed all that is due at this tick, one behind the other
abbrev pub due_at : (tick : ℕ) → List Owed → List ℕ
due_at tick owed = flat_map (λ o. o.messages) (filter (λ o. o.due == tick) owed)

-- the answers that a connection is promised by a piece of its stream
abbrev pub promises : Framing → Conduct → ℕ → List ℕ → List Event → List Owed
promises size conduct c piece past = promised conduct (ticks size conduct past) (brought size conduct c piece past) (messages_of (requests size conduct past))

-- those that an event promises a client
abbrev pub promised_by : Framing → Conduct → ℕ → Event → List Event → List Owed
promised_by size conduct c (Piece d piece) past = if d == c then promises size conduct d piece past else []
promised_by size conduct c _ past = []

abbrev pub joins : ℕ → Event → Bool
joins c (Joined d) = d == c
joins c _ = false

-- all that a client was promised since it joined
unfoldable pub owed : Framing → Conduct → ℕ → List Event → List Owed
owed size conduct c [] = []
owed size conduct c (event ∷ past) = if joins c event then [] else owed size conduct c past ++ promised_by size conduct c event past

-- ---- what a client gets ----

-- what an event brings a client: at a piece the answers that are due at once, and at a tick those that are due then and what the modem tells by the clock
abbrev pub added : Framing → Conduct → ℕ → Event → List Event → List ℕ
added size conduct c (Piece d piece) past = if d == c then due_at (ticks size conduct past) (promises size conduct d piece past) else []
added size conduct c (Now time) past = due_at (ticks size conduct past + 1) (owed size conduct c past) ++ conduct.told (ticks size conduct past + 1) (messages_of (requests size conduct past))
added size conduct c _ past = []

-- how many bytes the client's socket takes
abbrev pub taken : ℕ → Event → ℕ
taken c (Took d count) = if d == c then count else 0
taken c _ = 0

-- all that the client got since it joined
unfoldable pub text : Framing → Conduct → ℕ → List Event → List ℕ
text size conduct c [] = []
text size conduct c (event ∷ past) = if joins c event then [] else text size conduct c past ++ added size conduct c event past

-- what its socket didn't take yet of it
unfoldable pub waiting : Framing → Conduct → ℕ → List Event → List ℕ
waiting size conduct c [] = []
waiting size conduct c (event ∷ past) = if joins c event then [] else drop (taken c event) (waiting size conduct c past) ++ added size conduct c event past
