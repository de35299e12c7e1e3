-- A core of several QMI devices: one of `qmi_state` for each. Lists of events have the newest first.
use Rattle.std.specs.Prelude.{◌≡◌, ◌↔◌, ℕ, ◌<◌, false, List, [], ◌∷◌, length, map, Option, Some}
use Rattle.proxy_history.specs.Connections.{present}
use Rattle.proxy_history.specs.History.{history}
use Rattle.qmi_proxy.specs.Limits.{connection_limit}
use Rattle.qmi_proxy.specs.History.{qmi_protocol}
use Rattle.qmi_state.specs.declared.client.Client.{Client}
use Rattle.qmi_state.specs.Core.{ModemSide, QmiCore, kept_of, opened}
use Rattle.qmi_state.specs.Transitions.{qmi_handlers}
use Rattle.many_history.specs.Events.{ManyEvent}
use Rattle.many_history.specs.Devices.{HasDevices}
use Rattle.many_history.specs.Many.{Place, Undecided, place_of, own}
use Rattle.many_history.specs.Queues.{text_for}
use Rattle.many_history.specs.Coming.{MayCome}
use Rattle.many_state.specs.Core.{ManyCore, waiting_for}
use Rattle.many_state.specs.Core as many
use Rattle.many_state.specs.Laws as laws
use Rattle.qmi_many.specs.Devices.{setup_at, qmi_devices}

abbrev pub QmiMany : Type 0
QmiMany = ManyCore Client ModemSide

abbrev pub MayMeet : ManyEvent → QmiMany → Type 0
MayMeet event x = many.MayMeet qmi_handlers event x

module _ (paths : List (List ℕ)) (time_limit : ℕ) (release : Option ℕ) where
  abbrev pub Stands : List ManyEvent → QmiMany → Type 0
  Stands events x = many.Stands (qmi_devices paths time_limit release) (λ d. kept_of (setup_at paths time_limit release d)) events x

  abbrev pub StandsAfter : List ManyEvent → QmiMany → Type 0
  StandsAfter events x = many.StandsAfter (qmi_devices paths time_limit release) (λ d. kept_of (setup_at paths time_limit release d)) events x

  -- the event is met, and nobody is dropped yet who was let in
  abbrev pub met : ManyEvent → QmiMany → QmiMany
  met event x = many.met (qmi_devices paths time_limit release) qmi_handlers event x

  abbrev pub step : ManyEvent → QmiMany → QmiMany
  step event x = many.step (qmi_devices paths time_limit release) qmi_handlers event x

  -- the event brings nobody to a device, nobody joins one by it, and none has fewer connections behind it
  abbrev pub MovesNobody : ManyEvent → QmiMany → Type 0
  MovesNobody event x = laws.MovesNobody (qmi_devices paths time_limit release) qmi_handlers event x

  -- the core of the device of a path
  abbrev pub opened_for : List ℕ → QmiCore
  opened_for path = opened (record { device = path; time_limit = time_limit; starts_away = false; release = release })

  abbrev pub nobody : QmiMany
  nobody = record { cores = map opened_for paths; seats = []; dropped = []; greatest = 0 }

-- where there is a device, one that was opened stands for no event, and one that stands for some stands for those and the next
pub record KeepsStanding (paths : List (List ℕ)) (time_limit : ℕ) (release : Option ℕ) : Type 0 where
  -- each first message chooses a device that there is
  pub devices : HasDevices (qmi_devices paths time_limit release)
  pub opened : Stands paths time_limit release [] (nobody paths time_limit release)
  pub steps : (event : ManyEvent) (events : List ManyEvent) (x : QmiMany) → MayCome (qmi_devices paths time_limit release) event events → Stands paths time_limit release events x → StandsAfter paths time_limit release (event ∷ events) (step paths time_limit release event x)
  -- it may meet what may come
  pub may_come : (event : ManyEvent) (events : List ManyEvent) (x : QmiMany) → Stands paths time_limit release events x → MayMeet event x ↔ MayCome (qmi_devices paths time_limit release) event events
  -- nobody is dropped where nobody is moved
  pub stays : (event : ManyEvent) (events : List ManyEvent) (x : QmiMany) → MayCome (qmi_devices paths time_limit release) event events → Stands paths time_limit release events x → MovesNobody paths time_limit release event x
      → step paths time_limit release event x ≡ met paths time_limit release event x
  -- no device's own limit refuses whoever chooses it
  pub room : (events : List ManyEvent) (x : QmiMany) (c : ℕ) (bytes : List ℕ) (d : ℕ) → Stands paths time_limit release events x → d < length paths → place_of c x.seats ≡ Some (Undecided bytes)
      → length (present (history (qmi_protocol (setup_at paths time_limit release d)) (own (qmi_devices paths time_limit release) d events))) < connection_limit
  -- what waits for a connection that is there is what its text says
  pub waiting : (events : List ManyEvent) (x : QmiMany) (c : ℕ) (place : Place) → Stands paths time_limit release events x → place_of c x.seats ≡ Some place
      → waiting_for c x ≡ (text_for (qmi_devices paths time_limit release) c events).waiting

abbrev pub CoresKeepStanding : Type 0
CoresKeepStanding = (paths : List (List ℕ)) (time_limit : ℕ) (release : Option ℕ) → 0 < length paths → KeepsStanding paths time_limit release
