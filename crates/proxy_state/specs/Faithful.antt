-- The cores that keep what their protocol's history says: what each handler owes for that. A list of facts has the newest first.
use Rattle.std.specs.Prelude.{◌≡◌, ℕ, ◌≤◌, Bool, true, false, List, [], ◌∷◌, ◌++◌, length, map, drop, is_none}
use Rattle.std.specs.List.{AllByRecursion}
use Rattle.connections.specs.Table.{Connection, Table, changed}
use Rattle.connections.specs.Table as tables
use Rattle.connections.specs.Hearing.{Hearing}
use Rattle.proxy_history.specs.Events.{Event}
use Rattle.proxy_history.specs.Streams.{modem_stream}
use Rattle.proxy_history.specs.Facts.{Fact, EventBegan, Admitted, Ended, NotAdmitted, Taken, ModemReturned, ModemTaken, Why}
use Rattle.proxy_history.specs.Connections.{present, dropped, contains}
use Rattle.proxy_history.specs.Modem as modem
use Rattle.proxy_history.specs.View.{Taking}
use Rattle.proxy_history.specs.Unanswered as unanswered
use Rattle.proxy_history.specs.Items.{ModemSays}
use Rattle.proxy_history.specs.Sound.{MayFollow}
use Rattle.proxy_history.specs.Protocol.{Protocol}
use Rattle.proxy_history.specs.History.{known_of, history, add_all}
use Rattle.proxy_history.specs.Coming.{AreSound}
use Rattle.proxy_history.specs.Adding.{AllFit}
use Rattle.proxy_state.specs.State.{State, Handlers, dropped_clients_in}
use Rattle.proxy_state.specs.Stands.{Kept, Streams, HoldsOf, connection_of, dropped_client_of}

-- In the midst of an event a state keeps what these facts say. `Fine` is what the protocol knows of its histories.
pub record Keeps {Known T S : Type 0} (p : Protocol Known) (k : Kept Known T S) (Fine : List Fact → Type 0) (streams : Streams) (past : List Fact) (x : State T S) : Type 0 where
  pub holds : HoldsOf p k streams past x
  pub dropped_clients : dropped_clients_in x.table.dropped ≡ map (dropped_client_of p past) (dropped past)
  -- none that was dropped is there, and all that was due to those who are there found room
  pub apart : AllByRecursion (λ d. contains d (present past) ≡ false) (dropped past)
  pub fits : AllFit p.limits p.wording past
  pub fine : Fine past

-- a fact of a client's connection, which the protocol has no part in
abbrev pub IsOfConnections : Fact → List Fact → Type 0
IsOfConnections EventBegan past = Unit {0}
IsOfConnections (Admitted c) past = (1 ≤ c) × (contains c (present past) ≡ false)
IsOfConnections (Ended c NotAdmitted) past = 1 ≤ c
IsOfConnections (Ended c why) past = Unit {0}
IsOfConnections (Taken c count) past = Unit {0}
IsOfConnections _ past = ⊥

-- what is kept beside the connections is the same behind a fact as before it
abbrev pub ChangesNothing : {Known T S : Type 0} → Kept Known T S → Fact → List Fact → Type 0
ChangesNothing k fact past = (messages : List (List ℕ)) → k.beside messages (fact ∷ past) ≡ k.beside messages past

-- what is said to a protocol of a piece of the modem's stream that is one whole message
abbrev pub delivered_by : {Known : Type 0} → Protocol Known → List (List ℕ) → List ℕ → List (List ℕ)
delivered_by p messages m = drop (length (p.deliver messages)) (p.deliver (messages ++ m ∷ []))

module _ {T S : Type 0} (h : Handlers T S) where
  -- a client as one that was heard, or dropped where what was due to it lacked room
  abbrev pub settled_if : Bool → ℕ → Hearing T S → State T S → State T S
  settled_if true c g x = record {
    table = record x.table { present = changed c (λ l. record l { client = g.client; outbox = g.outbox }) x.table.present };
    beside = g.beside;
  }
  settled_if false c g x = record { table = tables.drops c g.outbox x.table; beside = h.give_up c g.beside }

  abbrev pub settled : ℕ → Hearing T S → State T S → State T S
  settled c g x = settled_if g.has_room c g x

-- what is kept is read off, and facts of connections change it, as the history says
pub record FollowsConnections {Known T S : Type 0} (p : Protocol Known) (k : Kept Known T S) (h : Handlers T S) (Fine : List Fact → Type 0) : Type 0 where
  -- what the protocol knows of its histories stays behind such facts
  pub fine_more : (fact : Fact) (past : List Fact) → MayFollow p.limits fact past → IsOfConnections fact past → Fine past → Fine (fact ∷ past)
  -- ---- what is read off ----
  pub fresh : k.client p.wording.fresh ≡ h.fresh
  pub taken_bytes : (known : Known) (count : ℕ) → k.client (p.wording.step known (Taking count)) ≡ k.client known
  pub time : (messages : List (List ℕ)) (past : List Fact) → h.time (k.beside messages past) ≡ modem.now past
  pub away : (messages : List (List ℕ)) (past : List Fact) → h.away (k.beside messages past) ≡ modem.is_away p.starts_away past
  pub modem_queue : (messages : List (List ℕ)) (past : List Fact) → h.modem_queue (k.beside messages past) ≡ modem.modem_queue p.wire past
  -- ---- the facts ----
  pub begun : (past : List Fact) → ChangesNothing k EventBegan past
  pub admitted : (c : ℕ) (past : List Fact) → ChangesNothing k (Admitted c) past
  pub was_taken : (c count : ℕ) (past : List Fact) → ChangesNothing k (Taken c count) past
  pub refused : (c : ℕ) (past : List Fact) → 1 ≤ c → contains c (present past) ≡ false → Fine past → ChangesNothing k (Ended c NotAdmitted) past
  pub ended : (c : ℕ) (why : Why) (messages : List (List ℕ)) (past : List Fact) → h.give_up c (k.beside messages past) ≡ k.beside messages (Ended c why ∷ past)

-- whatever the core keeps, each handler keeps it
pub record IsFaithful {Known T S : Type 0} (p : Protocol Known) (k : Kept Known T S) (h : Handlers T S) (Fine : List Fact → Type 0) : Type 0 where
  pub connections : FollowsConnections p k h Fine
  -- ---- the protocol ----
  pub away_agrees : (events : List Event) → modem.is_away p.starts_away (history p events) ≡ is_none (modem_stream p.size p.starts_away events)
  pub fits : (events : List Event) → AllFit p.limits p.wording (history p events)
  pub delivers : (messages : List (List ℕ)) (m : List ℕ) → p.deliver (messages ++ m ∷ []) ≡ p.deliver messages ++ delivered_by p messages m
  pub fine : (events : List Event) → AreSound p events → Fine (history p events)
  -- ---- messages ----
  pub hear_client : (c : ℕ) (m : List ℕ) (streams : Streams) (past : List Fact) (x : State T S) → contains c (present past) ≡ true → Keeps p k Fine streams past x
      → (let l = connection_of p k streams.rests past c in Keeps p k Fine streams (p.hear_client (known_of p c past) c m past) (settled h c (h.hear_client c m l.client l.outbox x.beside) x))
  pub hear_modem : (m : List ℕ) (streams : Streams) (past : List Fact) (x : State T S) → Keeps p k Fine streams past x
      → Keeps p k Fine (record streams { messages = streams.messages ++ m ∷ [] }) (add_all p (map (λ l. ModemSays l) (delivered_by p streams.messages m)) past) (h.hear_modem m x)
  -- ---- the modem and the clock ----
  pub lose : (streams : Streams) (past : List Fact) (x : State T S) → Keeps p k Fine streams past x
      → Keeps p k Fine (record streams { messages = [] }) (unanswered.lose p.refuse p.order p.close past) (h.lose x)
  pub regain : (streams : Streams) (past : List Fact) (x : State T S) → streams.messages ≡ [] → Keeps p k Fine streams past x
      → Keeps p k Fine streams (ModemReturned ∷ past) (record x { beside = h.regain x.beside })
  pub take_modem : (count : ℕ) (streams : Streams) (past : List Fact) (x : State T S) → count ≤ length (h.modem_queue x.beside) → Keeps p k Fine streams past x
      → Keeps p k Fine streams (ModemTaken count ∷ past) (record x { beside = h.take_modem count x.beside })
  pub tick : (time : ℕ) (streams : Streams) (past : List Fact) (x : State T S) → Keeps p k Fine streams past x
      → Keeps p k Fine streams (p.on_clock (unanswered.tick p.refuse p.order time past)) (h.tick time x)
  pub finish : (streams : Streams) (past : List Fact) (x : State T S) → Keeps p k Fine streams past x → Keeps p k Fine streams (p.finish past) (h.finish x)
