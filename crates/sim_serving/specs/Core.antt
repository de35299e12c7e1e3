-- What the core of a simulated modem's server keeps and shows. Lists of events have the newest first.
use Rattle.std.specs.Prelude.{◌≡◌, ℕ, ◌-◌, ◌≤◌, false, nat_lt, List, [], ◌∷◌, map, filter, Option, Some, None, ◌==◌, find}
use Rattle.std.specs.List.{AllByRecursion, IsDistinct}
use Rattle.framing.specs.Cutting.{cut}
use Rattle.proxy_history.specs.Events.{Event, Joined, Piece, Now}
use Rattle.proxy_history.specs.Streams.{Framing, stream}
use Rattle.proxy_history.specs.Proxy.{Proxy}
use Rattle.proxy_serving.specs.Face.{Face}
use Rattle.served_sim.specs.Conduct.{Conduct}
use Rattle.sim_serving.specs.Clients.{Owed, present, dropped, requests, messages_of, ticks, owed, waiting}
use Rattle.sim_serving.specs.declared.replies.Late.{Late}
use Rattle.sim_serving.specs.Proxy.{served}

-- what a client is to get
pub record Replies : Type 0 where
  -- the bytes that wait for its socket
  pub waiting : List ℕ
  -- the messages that go later, and in how many ticks
  pub late : List Late

abbrev pub no_replies : Replies
no_replies = record { waiting = []; late = [] }

pub record Client : Type 0 where
  pub name : ℕ
  -- what its stream has behind its whole messages
  pub rest : List ℕ
  pub replies : Replies

pub record Core (S : Type 0) : Type 0 where
  pub sim : S
  -- in order of joining
  pub clients : List Client
  -- whose stream went bad or whom the modem hung up, until it is asked for
  pub dropped : Option ℕ
  -- the greatest name of a connection so far
  pub greatest : ℕ

-- ---- what it shows ----

abbrev pub names_of : List Client → List ℕ
names_of clients = map (λ k. k.name) clients

-- the first client of a name
abbrev pub named : ℕ → List Client → Option Client
named name clients = find (λ k. name == k.name) clients

abbrev pub waiting_in : Option Client → List ℕ
waiting_in None = []
waiting_in (Some k) = k.replies.waiting

-- the bytes that wait for it
abbrev pub waiting_for : ℕ → List Client → List ℕ
waiting_for name clients = waiting_in (named name clients)

abbrev pub listed : Option ℕ → List ℕ
listed None = []
listed (Some name) = name ∷ []

abbrev pub face_of : {S : Type 0} → Core S → Face
face_of core = record {
  present = names_of core.clients;
  queue = λ c. waiting_for c core.clients;
  modem_queue = [];
  modem_backlog = 0;
  dropped = listed core.dropped;
  away = false;
  time = 0;
  greatest = core.greatest;
}

-- ---- what it stands for ----

-- of what is owed all that is due later than at this tick
abbrev pub late_after : (tick : ℕ) → List Owed → List Late
late_after tick owed = map (λ o. record { ticks = o.due - tick; messages = o.messages }) (filter (λ o. nat_lt tick o.due) owed)

-- the client of this name
abbrev pub client_of : Framing → Conduct → List Event → ℕ → Client
client_of size conduct past c = record {
  name = c;
  rest = (cut size (stream c past)).rest;
  replies = record { waiting = waiting size conduct c past; late = late_after (ticks size conduct past) (owed size conduct c past) };
}

-- it stands for these events, where the modem behaves so
pub record StandsFor {S : Type 0} (size : Framing) (keeps : ℕ → Conduct → List (List ℕ) → S → Type 0) (conduct : Conduct) (past : List Event) (core : Core S) : Type 0 where
  pub modem : keeps (ticks size conduct past) conduct (messages_of (requests size conduct past)) core.sim
  pub clients : core.clients ≡ map (client_of size conduct past) (present size conduct past)
  pub distinct : IsDistinct (λ c d. c == d) (present size conduct past)
  pub known : AllByRecursion (λ c. c ≤ core.greatest) (present size conduct past)
  -- who was dropped may have been asked for
  pub dropped : dropped size conduct past ≡ [] → core.dropped ≡ None

-- just after the newest of these events: whom it dropped is still to be hung up
pub record StandsAfter {S : Type 0} (size : Framing) (keeps : ℕ → Conduct → List (List ℕ) → S → Type 0) (conduct : Conduct) (past : List Event) (core : Core S) : Type 0 where
  pub stands : StandsFor size keeps conduct past core
  pub all_dropped : listed core.dropped ≡ dropped size conduct past

-- it keeps what it has to, by the definitions of this proxy
pub record Keeps {S : Type 0} (size : Framing) (keeps : ℕ → Conduct → List (List ℕ) → S → Type 0) (p : Proxy) (past : List Event) (core : Core S) : Type 0 where
  pub conduct : Conduct
  pub same : p ≡ served size conduct
  pub stands : StandsFor size keeps conduct past core

-- memory may be lacking for a client that joins, for what a piece asks, and at a tick of a clock that matters
abbrev pub LacksMemory : (clock : Type 0) → Event → Type 0
LacksMemory clock (Joined c) = Unit {0}
LacksMemory clock (Piece c piece) = Unit {0}
LacksMemory clock (Now time) = clock
LacksMemory clock _ = ⊥

-- where the clock doesn't matter
abbrev pub TakesMemory : Event → Type 0
TakesMemory = LacksMemory ⊥
