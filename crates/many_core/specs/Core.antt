-- What a core of a proxy of several QMI devices keeps, and what it stands for. Lists of events have the newest first.
use Rattle.std.specs.Prelude.{◌≡◌, ℕ, ◌+◌, ◌<◌, ◌≤◌, Bool, false, ◌==◌, nat_lt, List, [], ◌∷◌, ◌++◌, length, drop, position, slice_get, Option, Some, is_some}
use Rattle.std.specs.Option.{option_map}
use Rattle.hub_io.specs.declared.settings.Limits.{Limits}
use Rattle.proxy_history.specs.Modem.{now, is_away}
use Rattle.proxy_history.specs.History.{history}
use Rattle.proxy_history.specs.Rendering.{Rendering}
use Rattle.qmi_state.specs.Core.{QmiCore}
use Rattle.qmi_state.specs.Transitions.{qmi_handlers}
use Rattle.many_history.specs.Events.{ManyEvent}
use Rattle.many_history.specs.Devices.{Devices}
use Rattle.many_history.specs.Many.{Place, Undecided, At, Seat, place_of, own}
use Rattle.many_history.specs.Queues as queues
use Rattle.many_state.specs.Core as several
use Rattle.qmi_many.specs.Devices.{qmi_devices}
use Rattle.qmi_many_state.specs.Core.{QmiMany}
use Rattle.qmi_many_state.specs.Core as state

pub record ManyCore : Type 0 where
  -- the paths of the devices
  pub paths : List (List ℕ)
  -- how long a request waits for its answer, and after what time an id is released whose holder went
  pub limits : Limits
  -- the cores of the devices, and where each connection is
  pub core : QmiMany

abbrev pub devices_of : ManyCore → Devices Bool
devices_of x = qmi_devices x.paths x.limits.time x.limits.release

-- ---- what an event makes of it ----

abbrev pub with_cores : List QmiCore → ManyCore → ManyCore
with_cores cores x = record x { core = record x.core { cores = cores } }

abbrev pub met : ManyEvent → ManyCore → ManyCore
met event x = record x { core = state.met x.paths x.limits.time x.limits.release event x.core }

abbrev pub settled : ManyCore → ManyCore
settled x = record x { core = several.settled x.core }

abbrev pub step : ManyEvent → ManyCore → ManyCore
step event x = settled (met event x)

abbrev pub MayMeet : ManyEvent → ManyCore → Type 0
MayMeet event x = state.MayMeet event x.core

abbrev pub MovesNobody : ManyEvent → ManyCore → Type 0
MovesNobody event x = state.MovesNobody x.paths x.limits.time x.limits.release event x.core

-- ---- what it stands for ----

abbrev pub Stands : List ManyEvent → ManyCore → Type 0
Stands events x = state.Stands x.paths x.limits.time x.limits.release events x.core

abbrev pub StandsAfter : List ManyEvent → ManyCore → Type 0
StandsAfter events x = state.StandsAfter x.paths x.limits.time x.limits.release events x.core

-- ---- the bytes that wait ----

abbrev pub waiting_for : ℕ → ManyCore → List ℕ
waiting_for c x = several.waiting_for c x.core

-- the bytes for a client, as the definitions say
abbrev pub text_for : ManyCore → ℕ → List ManyEvent → Rendering
text_for x c events = queues.text_for (devices_of x) c events

-- the connection is there, or was dropped and isn't asked for yet
abbrev pub is_owed : ℕ → ManyCore → Bool
is_owed c x = is_some (place_of c (x.core.seats ++ x.core.dropped))

-- whoever is there is there for its device as well, so of what waits there for those who were dropped nothing is meant
abbrev pub has_waiting : List QmiCore → Seat → Bool
has_waiting cores seat = nat_lt 0 (length (several.queue_at qmi_handlers cores (Some seat.place)))

-- the place of the first from this place on for which bytes wait
abbrev pub first_waiting : ℕ → ManyCore → Option ℕ
first_waiting from x = option_map (λ at. from + at) (position (has_waiting x.core.cores) (drop from x.core.seats))

abbrev pub is_at : ℕ → Place → Bool
is_at d (Undecided bytes) = false
is_at d (At e name) = e == d

-- of those who are there for a device, bytes wait for none of a lower name
abbrev pub NobodyWaitsBefore : ℕ → QmiCore → Type 0
NobodyWaitsBefore name core = (other : ℕ) → other < name → several.queue_under qmi_handlers other (Some core) ≡ []

-- for the modem of a device, as the definitions say
abbrev pub modem_queue : ManyCore → ℕ → List ManyEvent → List ℕ
modem_queue x d events = queues.modem_queue (devices_of x) d events

-- ---- the modems and the clock ----

-- what the clock shows is the same for all devices
abbrev pub time_in : List QmiCore → ℕ
time_in [] = 0
time_in (core ∷ cores) = core.state.beside.time

abbrev pub time_at : ManyCore → List ManyEvent → ℕ
time_at x events = now (history ((devices_of x).protocol 0) (own (devices_of x) 0 events))

abbrev pub is_away_at : ManyCore → ℕ → List ManyEvent → Bool
is_away_at x d events = is_away ((devices_of x).protocol d).starts_away (history ((devices_of x).protocol d) (own (devices_of x) d events))

-- ---- how many bytes wait at most ----

pub record IsBounded (x : ManyCore) : Type 0 where
  pub clients : (c : ℕ) → length (waiting_for c x) ≤ 262144
  pub modems : (d : ℕ) (core : QmiCore) → slice_get x.core.cores d ≡ Some core → length core.state.beside.traffic.waiting ≤ 1048576
