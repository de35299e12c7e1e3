-- What a core of the MBIM proxy keeps, and what it stands for.
-- Lists of events and of facts have the newest first; all other lists have the oldest first.
use Rattle.std.specs.Prelude.{ℕ, ◌≤◌, Bool, false, List, [], Option}
use Rattle.kit_bytes.specs.Subscriptions.{Pair}
use Rattle.outbox.specs.Queue.{Queue}
use Rattle.connections.specs.Table as connections
use Rattle.number_space.specs.Table.{Table, settles_number}
use Rattle.proxy_history.specs.Events.{Event}
use Rattle.proxy_history.specs.Facts.{Fact}
use Rattle.proxy_history.specs.Requests.{last_number}
use Rattle.proxy_history.specs.Modem.{now, is_away, modem_queue}
use Rattle.proxy_state.specs.State.{State, Core}
use Rattle.proxy_state.specs.Requests.{requests_in_use, rows_of}
use Rattle.proxy_state.specs.Stands.{Kept}
use Rattle.proxy_state.specs.Stands as proxy
use Rattle.mbim_fragments.specs.Assembling.{Assembled}
use Rattle.mbim_proxy.specs.Setup.{Setup, mbim_setup, the_space}
use Rattle.mbim_proxy.specs.Known.{Known}
use Rattle.mbim_proxy.specs.Delivering.{Begun, none_begun, begun_from}
use Rattle.mbim_proxy.specs.ModemStates.{ModemState, state}
use Rattle.mbim_proxy.specs.Lists.{askers, last_list}
use Rattle.mbim_proxy.specs.Forwarding.{wire}
use Rattle.mbim_proxy.specs.History.{mbim_protocol}
use Rattle.mbim_state.specs.Asked.{Asked, asked_of}

-- ---- what is kept of a client ----

pub record Client : Type 0 where
  -- what has come of its command of which more fragments are due
  pub begun : Assembled
  -- it named the device
  pub configured : Bool
  pub opened : Bool
  -- the number of its request to open that waits for the modem
  pub waits : Option ℕ
  -- how many bytes the fragments have that it is served with
  pub fragment : ℕ
  -- what it subscribes to
  pub list : List Pair

-- neither how many messages it sent nor its commands: those that the modem may answer stand with their numbers
abbrev pub client_of : Known → Client
client_of known = record {
  begun = known.begun;
  configured = known.configured;
  opened = known.opened;
  waits = known.waits;
  fragment = known.fragment;
  list = known.list;
}

-- what the client's own view tells of it, as far as that is kept
abbrev pub known_by : Client → Known
known_by client = record {
  sent = 0;
  begun = client.begun;
  configured = client.configured;
  opened = client.opened;
  waits = client.waits;
  fragment = client.fragment;
  list = client.list;
  asks = [];
}

-- ---- what is kept beside the clients' connections ----

-- the numbers in use, with their senders and deadlines
abbrev pub Numbers : Type 0
Numbers = Table Asked

pub record ModemSide : Type 0 where
  -- the characters of the device's path, and how long a request waits for its answer, in milliseconds
  pub device : List ℕ
  pub time_limit : ℕ
  -- what the clock shows, in milliseconds
  pub time : ℕ
  -- whether the modem is away, and whether it is open for the proxy
  pub away : Bool
  pub modem : ModemState
  pub numbers : Numbers
  -- the clients that asked to open the modem and had to wait, in the order of that
  pub askers : List ℕ
  -- the list that the modem was last asked for
  pub last_list : List Pair
  -- what has come of the modem's messages of which more fragments are due
  pub begun : Begun
  -- the bytes that wait for the modem
  pub outbox : Queue

abbrev pub MbimState : Type 0
MbimState = State Client ModemSide

abbrev pub MbimCore : Type 0
MbimCore = Core Client ModemSide

-- no more numbers may be in use than there are
abbrev pub HasNumbers : Setup → Type 0
HasNumbers s = (space : ℕ) → s.limits.in_use space ≤ s.limits.top space

-- ---- what a core stands for ----

-- nobody waits for the number any more; it stays in use
abbrev pub silences : ℕ → Numbers → Numbers
silences number numbers = record numbers { rows = settles_number number numbers.rows }

-- those of the requests in use, in order of forwarding, and the last one that was given
abbrev pub numbers_of : Setup → List Fact → Numbers
numbers_of s past = record { rows = rows_of asked_of the_space (requests_in_use past); last = last_number the_space past; limit = s.limits.in_use the_space; top = s.limits.top the_space }

-- the proxy as it is served with what is kept
abbrev pub setup_of : ModemSide → Setup
setup_of side = mbim_setup side.device side.time_limit false

-- `messages` are the whole messages of the modem's stream
abbrev pub side_of : Setup → (messages : List (List ℕ)) → List Fact → ModemSide
side_of s messages past = record {
  device = s.device;
  time_limit = s.time_limit;
  time = now past;
  away = is_away s.starts_away past;
  modem = state s.starts_away past;
  numbers = numbers_of s past;
  askers = askers past;
  last_list = last_list past;
  begun = begun_from s.longest_body none_begun messages;
  outbox = record { bytes = modem_queue (wire s) past; capacity = s.limits.modem_outbox };
}

abbrev pub kept_of : Setup → Kept Known Client ModemSide
kept_of s = record { client = client_of; beside = side_of s }

-- a core that met these events; of the dropped names some may have been asked for
abbrev pub Stands : Setup → List Event → MbimCore → Type 0
Stands s events core = proxy.Stands (mbim_protocol s) (kept_of s) events core

-- just after the newest of these events: all names that it dropped are still to be asked for
abbrev pub StandsAfter : Setup → List Event → MbimCore → Type 0
StandsAfter s events core = proxy.StandsAfter (mbim_protocol s) (kept_of s) events core

-- nothing has happened yet, and nobody is there
abbrev pub opened_core : Setup → MbimCore
opened_core s = record {
  state = record {
    table = connections.opened s.limits.connections s.limits.outbox;
    beside = side_of s [] [];
  };
  rest = [];
}
