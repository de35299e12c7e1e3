-- What a core of a QMI proxy of several devices shows to whoever serves its clients, and what it keeps. Lists of events have the newest first.
use Rattle.std.specs.Prelude.{◌≡◌, ℕ, ◌<◌, Bool, false, List, length, slice_get, Option, Some, None}
use Rattle.qmi_state.specs.Core.{QmiCore}
use Rattle.qmi_state.specs.Transitions.{qmi_handlers}
use Rattle.many_history.specs.Events.{ManyEvent}
use Rattle.many_history.specs.Many.{conns_of, place_of}
use Rattle.many_state.specs.Core.{queue_at, modem_queue_of}
use Rattle.qmi_many.specs.Devices.{qmi_devices}
use Rattle.many_serving.specs.Proxy.{ManyProxy, many_proxy_of}
use Rattle.many_core.specs.Core.{ManyCore, Stands, time_in}
use Rattle.serving_loop.specs.Face.{ManyFace}

-- whether the modem of a device is away
abbrev pub away_of : Option QmiCore → Bool
away_of None = false
away_of (Some core) = core.state.beside.away

-- nothing is asked by itself
abbrev pub face_of : ManyCore → ManyFace
face_of x = record {
  devices = length x.core.cores;
  present = conns_of x.core.seats;
  queue = λ c. queue_at qmi_handlers x.core.cores (place_of c x.core.seats);
  modem_queue = λ d. modem_queue_of qmi_handlers (slice_get x.core.cores d);
  modem_backlog = λ d. length (modem_queue_of qmi_handlers (slice_get x.core.cores d));
  dropped = conns_of x.core.dropped;
  away = λ d. away_of (slice_get x.core.cores d);
  time = time_in x.core.cores;
  greatest = x.core.greatest;
}

-- a QMI proxy of the devices of these paths, whose modems are there at the opening
abbrev pub many_proxy : (paths : List (List ℕ)) → (time_limit : ℕ) → (release : Option ℕ) → ManyProxy
many_proxy paths time_limit release = many_proxy_of (qmi_devices paths time_limit release) (λ d past. 0)

-- it stands for these events, by the definitions of this proxy
pub record Keeps (p : ManyProxy) (past : List ManyEvent) (x : ManyCore) : Type 0 where
  pub some : 0 < length x.paths
  pub same : p ≡ many_proxy x.paths x.limits.time x.limits.release
  pub stands : Stands past x
