-- What a core of a proxy keeps, whatever its protocol, and what it makes of what it meets.
-- `T` is what it keeps of a client, and `S` what it keeps beside the connections.
use Rattle.std.specs.Prelude.{ℕ, Bool, List, map}
use Rattle.connections.specs.Table.{Dropped, Table, left_in}
use Rattle.connections.specs.Hearing.{Hearer}

-- the clients' connections, and what is kept beside them
pub record State (T S : Type 0) : Type 0 where
  pub table : Table T
  pub beside : S

pub record Core (T S : Type 0) : Type 0 where
  pub state : State T S
  -- the bytes of the modem's stream behind its whole messages; none while it is away
  pub rest : List ℕ

-- a connection that was dropped and wasn't asked for yet, and the bytes that wait for it
pub record DroppedClient : Type 0 where
  pub name : ℕ
  pub waiting : List ℕ

abbrev pub dropped_clients_in : List Dropped → List DroppedClient
dropped_clients_in dropped = map (λ d. record { name = d.name; waiting = left_in d.outbox }) dropped

-- ---- what a protocol's core brings ----

pub record Handlers (T S : Type 0) : Type 0 where
  -- ---- what it reads off what is kept beside the connections ----
  -- the clock, and whether the modem is away
  pub time : S → ℕ
  pub away : S → Bool
  -- the bytes that wait for the modem
  pub modem_queue : S → List ℕ
  -- ---- clients ----
  -- what is kept of a client that joins
  pub fresh : T
  -- how a message of a client is heard
  pub hear_client : Hearer T S
  -- what the end of a connection changes beside the connections
  pub give_up : ℕ → S → S
  -- ---- the modem and the clock ----
  -- a whole message of the modem's stream is heard
  pub hear_modem : List ℕ → State T S → State T S
  -- the modem is lost, and comes back
  pub lose : State T S → State T S
  pub regain : S → S
  -- it took the first so many of the bytes that wait for it
  pub take_modem : ℕ → S → S
  -- the clock shows a time
  pub tick : ℕ → State T S → State T S
  -- an event ends
  pub finish : State T S → State T S
