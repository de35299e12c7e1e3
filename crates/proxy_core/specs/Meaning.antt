-- What a protocol means for a core. `T` is what is kept of a client, `S` what is kept beside the connections, and `P` what the protocol has at hand.
-- A list of facts has the newest first.
use Rattle.std.specs.Prelude.{◌≡◌, ℕ, ◌<◌, ◌==◌, false, List, length, map}
use Rattle.std.specs.List.{AllByRecursion}
use Rattle.hub_io.specs.declared.settings.Limits.{Limits}
use Rattle.connections.specs.Table.{Connection, Table}
use Rattle.proxy_history.specs.Facts.{Fact}
use Rattle.proxy_history.specs.Protocol.{Protocol}
use Rattle.proxy_state.specs.State.{State, Handlers}
use Rattle.proxy_state.specs.Stands.{Kept}

-- a client that is there, by the name of its connection
pub record Named (T : Type 0) : Type 0 where
  pub name : ℕ
  pub client : T

-- in order of joining
abbrev pub clients_in : {T : Type 0} → List (Connection T) → List (Named T)
clients_in present = map (λ k. record { name = k.name; client = k.client }) present

-- none of these has the name
abbrev pub AreOthers : {T : Type 0} → (name : ℕ) → List (Named T) → Type 0
AreOthers name clients = AllByRecursion (λ k. (name == k.name) ≡ false) clients

abbrev pub state_of : {T S : Type 0} → Table T → S → State T S
state_of table beside = record { table = table; beside = beside }

pub record Meaning (T S P : Type 0) : Type 1 where
  -- ---- what a core makes of what it meets ----
  -- what stays the same over its life
  pub Lasting : Type 0
  pub lasting : S → Lasting
  pub handlers : Lasting → Handlers T S
  -- what the protocol has at hand is of these clients and of what is kept beside their connections
  pub agrees : List (Named T) → S → P → Type 0
  -- ---- the definitions ----
  pub Setup : Type 0
  pub Known : Type 0
  pub protocol : Setup → Protocol Known
  pub kept : Setup → Kept Known T S
  -- what holds of the protocol's histories
  pub fine : Setup → List Fact → Type 0
  -- a core with what lasts may stand for events by the definitions of the setup
  pub serves : Setup → Lasting → Type 0
  -- how many bytes more the proxy may ask the modem by itself while the modem only takes: as a core tells it, and by the definitions
  pub own_bytes : State T S → ℕ
  pub own_bytes_by : Setup → List Fact → ℕ
  -- the setup of a core that is opened with these limits, for the device whose path has these characters
  pub opening : Limits → List ℕ → Setup

module _ {T S P : Type 0} (d : Meaning T S P) where
  abbrev pub handlers_at : S → Handlers T S
  handlers_at beside = d.handlers (d.lasting beside)

  -- there is room for one client more
  pub record HasRoom (beside : S) (hand : P) : Type 0 where
    pub clients : List (Named T)
    pub few : length clients < 64
    pub agrees : d.agrees clients beside hand

  -- what holds of the connections, of what is beside them and of what is at hand between two events
  pub record Agrees (table : Table T) (beside : S) (hand : P) : Type 0 where
    pub limit : table.limit ≡ 64
    pub clients : d.agrees (clients_in table.present) beside hand
