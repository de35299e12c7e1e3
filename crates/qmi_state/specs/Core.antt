-- What a core of the QMI proxy keeps, and what it stands for.
-- Lists of events and of facts have the newest first.
use Rattle.std.specs.Prelude.{ℕ, Bool, List, [], Option}
use Rattle.connections.specs.Table as table
use Rattle.proxy_history.specs.Events.{Event}
use Rattle.proxy_history.specs.Facts.{Fact}
use Rattle.proxy_history.specs.Modem.{now, is_away}
use Rattle.proxy_state.specs.State.{State, Core}
use Rattle.proxy_state.specs.Stands.{Kept}
use Rattle.proxy_state.specs.Stands as proxy
use Rattle.qmi_proxy.specs.Setup.{Setup}
use Rattle.qmi_proxy.specs.Limits.{connection_limit, outbox_limit}
use Rattle.qmi_proxy.specs.History.{qmi_protocol}
use Rattle.qmi_state.specs.declared.client.Client.{Client}
use Rattle.qmi_state.specs.Traffic.{Traffic, traffic_of}

-- what is kept beside the clients' connections
pub record ModemSide : Type 0 where
  -- the path of the device
  pub device : List ℕ
  -- how long a request waits for its answer, in milliseconds
  pub time_limit : ℕ
  -- after how many milliseconds it releases a client id whose holder went; never where it has none
  pub release : Option ℕ
  -- what the clock shows, in milliseconds
  pub time : ℕ
  -- whether the modem is away
  pub away : Bool
  -- numbers in use with their senders and deadlines, client ids with their holders or since when they are kept, and what waits for the modem
  pub traffic : Traffic

abbrev pub QmiState : Type 0
QmiState = State Client ModemSide

abbrev pub QmiCore : Type 0
QmiCore = Core Client ModemSide

-- ---- what a core stands for ----

abbrev pub side_of : Setup → List Fact → ModemSide
side_of s past = record { device = s.device; time_limit = s.time_limit; release = s.release; time = now past; away = is_away s.starts_away past; traffic = traffic_of past }

-- of a client it keeps whether it has opened the device
abbrev pub kept_of : Setup → Kept Bool Client ModemSide
kept_of s = record {
  client = λ opened. record { opened = opened };
  beside = λ messages past. side_of s past;
}

-- a core that met these events; of the dropped names some may have been asked for
abbrev pub Stands : Setup → List Event → QmiCore → Type 0
Stands s events core = proxy.Stands (qmi_protocol s) (kept_of s) events core

-- just after the newest of these events: all names that it dropped are still to be asked for
abbrev pub StandsAfter : Setup → List Event → QmiCore → Type 0
StandsAfter s events core = proxy.StandsAfter (qmi_protocol s) (kept_of s) events core

-- nothing has happened yet, and nobody is there
abbrev pub opened : Setup → QmiCore
opened s = record {
  state = record {
    table = table.opened connection_limit outbox_limit;
    beside = record { device = s.device; time_limit = s.time_limit; release = s.release; time = 0; away = s.starts_away; traffic = traffic_of [] };
  };
  rest = [];
}
