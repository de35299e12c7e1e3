-- What the laws say of cores of several devices. Lists of events have the newest first.
use Rattle.std.specs.Prelude.{◌≡◌, ◌↔◌, ℕ, Bool, true, false, ◌<◌, ◌≤◌, List, ◌∷◌, length, slice_get, Some}
use Rattle.std.specs.List.{AllByRecursion}
use Rattle.proxy_history.specs.Connections.{present}
use Rattle.proxy_history.specs.History.{history}
use Rattle.proxy_history.specs.Adding.{IsOrderly}
use Rattle.proxy_history.specs.Orderly.{Anything}
use Rattle.proxy_history.specs.Events.{Event}
use Rattle.proxy_history.specs.Events as one
use Rattle.proxy_state.specs.State.{Core, Handlers}
use Rattle.proxy_state.specs.Step as device
use Rattle.proxy_state.specs.Stands.{Kept, CanStep}
use Rattle.proxy_state.specs.Stands as proxy
use Rattle.proxy_solo.specs.Cores.{StepsWithWhatMayCome}
use Rattle.many_history.specs.Events.{ManyEvent}
use Rattle.many_history.specs.Devices.{Devices, HasDevices}
use Rattle.many_history.specs.Many.{Place, Undecided, Seat, place_of, parts, own}
use Rattle.many_history.specs.Queues.{text_for}
use Rattle.many_history.specs.Coming.{MayCome}
use Rattle.many_state.specs.Core.{ManyCore, names_of, waiting_for, core_behind, seats_before, met, step, MayMeet, Stands, StandsAfter}

-- the core of one device can meet what may come to it, and stands for that then
pub record IsProxysCore {Known T S : Type 0} (s : Devices Known) (k : ℕ → Kept Known T S) (h : Handlers T S) : Type 0 where
  pub steps : (d : ℕ) → StepsWithWhatMayCome (s.protocol d) (k d) h
  pub stands : (d : ℕ) (event : Event) (events : List Event) (core : Core T S) → CanStep h event core → proxy.Stands (s.protocol d) (k d) events core
      → proxy.StandsAfter (s.protocol d) (k d) (event ∷ events) (device.step h (s.protocol d).size event core)

module _ (Known T S : Type 0) where
  -- so is that of several
  abbrev pub StepsKeepStanding : Type 0
  StepsKeepStanding = (s : Devices Known) (k : ℕ → Kept Known T S) (h : Handlers T S) → HasDevices s → IsProxysCore s k h
      → (event : ManyEvent) (events : List ManyEvent) (x : ManyCore T S) → MayCome s event events → Stands s k events x → StandsAfter s k (event ∷ events) (step s h event x)

  -- and what it may meet is what may come
  abbrev pub MeetsWhatMayCome : Type 0
  MeetsWhatMayCome = (s : Devices Known) (k : ℕ → Kept Known T S) (h : Handlers T S) → HasDevices s → IsProxysCore s k h
      → (event : ManyEvent) (events : List ManyEvent) (x : ManyCore T S) → Stands s k events x → MayMeet h event x ↔ MayCome s event events

  -- what waits for a connection that is there is what its text says
  abbrev pub WaitingAreOfTheHistory : Type 0
  WaitingAreOfTheHistory = (s : Devices Known) (k : ℕ → Kept Known T S) → HasDevices s → (events : List ManyEvent) (x : ManyCore T S) (c : ℕ) (place : Place)
      → Stands s k events x → place_of c x.seats ≡ Some place → waiting_for c x ≡ (text_for s c events).waiting

  -- where each device may have as many connections as all may have together, each has room for whoever hasn't chosen yet
  abbrev pub EachDeviceHasRoom : Type 0
  EachDeviceHasRoom = (s : Devices Known) (k : ℕ → Kept Known T S) → ((d : ℕ) → IsOrderly (s.protocol d) Anything) → ((d : ℕ) → s.limit ≤ (s.protocol d).limits.connections)
      → (events : List ManyEvent) (x : ManyCore T S) (c : ℕ) (bytes : List ℕ) (d : ℕ) → Stands s k events x → d < s.count → place_of c x.seats ≡ Some (Undecided bytes)
      → length (present (history (s.protocol d) (own s d events))) < (s.protocol d).limits.connections

abbrev pub AreAll : (Place → Bool) → List Seat → Type 0
AreAll f seats = AllByRecursion (λ seat. f seat.place ≡ true) seats

-- none of these events is a joining
abbrev pub is_joining : Event → Bool
is_joining (one.Joined c) = true
is_joining _ = false

abbrev pub NobodyJoins : List Event → Type 0
NobodyJoins part = AllByRecursion (λ event. is_joining event ≡ false) part

module _ {Known T S : Type 0} (s : Devices Known) (h : Handlers T S) where
  -- the event brings nobody to a device, nobody joins one by it, and none has fewer connections behind it
  pub record MovesNobody (event : ManyEvent) (x : ManyCore T S) : Type 0 where
    -- what holds of each place that was taken, and of those who have chosen none, holds of each that is taken then
    pub places : (f : Place → Bool) → ((bytes : List ℕ) → f (Undecided bytes) ≡ true) → AreAll f x.seats → AreAll f (seats_before s h event x)
    pub joins : (d : ℕ) → NobodyJoins (parts s event x.seats (names_of x.cores) d)
    pub as_many : (d : ℕ) (core : Core T S) → slice_get x.cores d ≡ Some core → length core.state.table.present ≤ length (core_behind s h event x d core).state.table.present

-- then all who are there stay, and nobody is dropped
abbrev pub AllStayWhereNobodyIsMoved : (Known T S : Type 0) → Type 0
AllStayWhereNobodyIsMoved Known T S = (s : Devices Known) (k : ℕ → Kept Known T S) (h : Handlers T S) → HasDevices s → IsProxysCore s k h → ((d : ℕ) → IsOrderly (s.protocol d) Anything)
    → (event : ManyEvent) (events : List ManyEvent) (x : ManyCore T S) → MayCome s event events → Stands s k events x → MovesNobody s h event x
    → step s h event x ≡ met s h event x
