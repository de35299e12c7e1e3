-- Clients and a simulated modem with a proxy between them, where each takes at once all that waits for it, and the modem's messages are held
-- until they arrive. Lists of events and of requests have the newest first.
use Rattle.std.specs.Prelude.{ℕ, if◌then◌else◌, List, [], ◌∷◌, ◌++◌, fold, length, reverse}
use Rattle.framing.specs.Cutting.{cut}
use Rattle.proxy_history.specs.Events.{Event, ModemPiece, Took, ModemTook}
use Rattle.proxy_history.specs.Connections.{contains}
use Rattle.proxy_history.specs.Streams.{Framing}
use Rattle.proxy_history.specs.Proxy.{Proxy}
use Rattle.proxy_solo.specs.Solo.{pieces_of}
use Rattle.sim_modem.specs.Sim.{Answering}
use Rattle.hub_io.specs.Record.{taking}

-- who takes part, by the definitions of a protocol
pub record Cast : Type 0 where
  -- the names of the clients, in order of joining
  pub clients : List ℕ
  pub proxy : Proxy
  pub modem : Answering
  -- how the modem's stream and that of its requests are cut into messages
  pub size : Framing

pub record Stage : Type 0 where
  -- what the proxy met
  pub events : List Event
  -- what the modem was asked
  pub asked : List (List ℕ)
  -- the modem's messages that haven't arrived, the one that is held longest first
  pub held : List (List ℕ)

abbrev pub empty : Stage
empty = record { events = []; asked = []; held = [] }

-- ---- the takings behind an event ----

-- how many bytes wait for a client; for one that isn't there none do
abbrev pub queued_for : Proxy → ℕ → List Event → ℕ
queued_for p c events = if contains c (p.present events) then length (p.waiting c events) else 0

-- each of these clients takes all that waits for it; of an empty queue nothing is taken
unfoldable pub clients_take : Proxy → List ℕ → List Event → List Event
clients_take p [] events = events
clients_take p (c ∷ clients) events = clients_take p clients (taking (λ count. Took c count) (queued_for p c events) events)

abbrev pub modem_takes : Proxy → List Event → List Event
modem_takes p events = taking (λ count. ModemTook count) (length (p.waiting_for_modem events)) events

-- the modem is asked a message, and what it says is held
abbrev pub ask : Cast → List ℕ → Stage → Stage
ask cast m stage = record { events = stage.events; asked = m ∷ stage.asked; held = stage.held ++ (cut cast.size (cast.modem stage.asked m)).messages }

-- one message after the other
unfoldable pub ask_all : Cast → List (List ℕ) → Stage → Stage
ask_all cast [] stage = stage
ask_all cast (m ∷ messages) stage = ask_all cast messages (ask cast m stage)

-- the modem takes all that waits for it
abbrev pub modem_served : Cast → Stage → Stage
modem_served cast stage =
    ask_all cast (cut cast.size (cast.proxy.waiting_for_modem stage.events)).messages (record stage { events = modem_takes cast.proxy stage.events })

-- ---- what happens ----

-- the proxy meets an event; then each client, in order of joining, and then the modem takes all that waits
abbrev pub meet : Cast → Event → Stage → Stage
meet cast event stage =
    modem_served cast (record stage { events = clients_take cast.proxy cast.clients (event ∷ stage.events) })

abbrev pub hear : Cast → Stage → List ℕ → Stage
hear cast stage piece = meet cast (ModemPiece piece) stage

-- a message arrives in as few pieces as may come
abbrev pub arrive : Cast → List ℕ → Stage → Stage
arrive cast m stage = fold (hear cast) stage (pieces_of (length m) m)

-- the first of these messages arrives, if there is one, and the others are held
abbrev pub arrive_first : Cast → List (List ℕ) → Stage → Stage
arrive_first cast [] stage = stage
arrive_first cast (m ∷ held) stage = arrive cast m (record stage { held = held })

-- the message that is held longest arrives
abbrev pub longest_arrives : Cast → Stage → Stage
longest_arrives cast stage = arrive_first cast stage.held stage

-- the message that is held shortest arrives
abbrev pub arrive_last : Cast → List (List ℕ) → Stage → Stage
arrive_last cast [] stage = stage
arrive_last cast (m ∷ held) stage = arrive cast m (record stage { held = reverse held })

abbrev pub shortest_arrives : Cast → Stage → Stage
shortest_arrives cast stage = arrive_last cast (reverse stage.held) stage

-- the message that is held longest arrives, once for each of these messages
unfoldable pub arrive_each : Cast → List (List ℕ) → Stage → Stage
arrive_each cast [] stage = stage
arrive_each cast (m ∷ messages) stage = arrive_each cast messages (longest_arrives cast stage)

-- all messages that are held arrive, the one that is held longest first
abbrev pub all_arrive : Cast → Stage → Stage
all_arrive cast stage = arrive_each cast stage.held stage
