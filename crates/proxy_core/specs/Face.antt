-- What a core of a proxy shows to whoever serves its clients, and what it keeps. Lists of events have the newest first.
use Rattle.std.specs.Prelude.{◌≡◌, ◌+◌, List, length, map}
use Rattle.proxy_history.specs.Events.{Event}
use Rattle.proxy_history.specs.Proxy.{Proxy}
use Rattle.proxy_serving.specs.Face.{Face}
use Rattle.proxy_state.specs.State.{Core}
use Rattle.proxy_state.specs.Stands.{waiting_for, names_of}
use Rattle.proxy_core.specs.Meaning.{Meaning}
use Rattle.proxy_core.specs.Core.{handlers_in, lasting_in, Stands}
use Rattle.proxy_core.specs.Lawful.{proxy_by}

module _ {T S P : Type 0} (d : Meaning T S P) where
  abbrev pub face_of : Core T S → Face
  face_of core = record {
    present = names_of core;
    queue = λ c. waiting_for c core;
    modem_queue = (handlers_in d core).modem_queue core.state.beside;
    modem_backlog = length ((handlers_in d core).modem_queue core.state.beside) + d.own_bytes core.state;
    dropped = map (λ l. l.name) core.state.table.dropped;
    away = (handlers_in d core).away core.state.beside;
    time = (handlers_in d core).time core.state.beside;
    greatest = core.state.table.greatest;
  }

  -- it stands for these events, by the definitions of this proxy
  pub record Keeps (p : Proxy) (past : List Event) (core : Core T S) : Type 0 where
    pub setup : d.Setup
    pub serves : d.serves setup (lasting_in d core)
    pub same : p ≡ proxy_by d setup
    pub stands : Stands d setup past core
