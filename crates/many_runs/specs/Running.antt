-- What a proxy of several devices does, read off what its hub and its children record. Lists of calls on a hub have the newest first, those of calls on a spawner the oldest.
use Rattle.std.specs.Prelude.{◌≡◌, ℕ, ◌<◌, Bool, true, false, List, [], ◌∷◌, ◌++◌, length, map, Option, Result, Ok, Err}
use Rattle.std.specs.Str.{encode_utf8_all}
use Rattle.link_io.specs.Target.{Address}
use Rattle.hub_io.specs.Record.{Since}
use Rattle.hub_io.specs.declared.settings.ServeEnd.{ServeEnd}
use Rattle.hub_io.specs.declared.settings.ServeEnd.TheVariants as end
use Rattle.hub_io.specs.declared.settings.Until.{Until}
use Rattle.child_io.specs.Calls as child
use Rattle.modem_routes.specs.Routes.{PumpWords}
use Rattle.modem_routes.specs.Reaching.{StartsPumps, StartsAndStops}
use Rattle.many_io.specs.Record.{ManyCall, Opened, Paired}
use Rattle.many_served.specs.Ends.{EndsSo}
use Rattle.many_served.specs.Face.{many_proxy}
use Rattle.many_served.specs.declared.serving.ManySettings.{ManySettings}
use Rattle.many_runs.specs.Places.{address_in, places_of, pumps_in}
use Rattle.many_runs.specs.declared.opening.NotOpened.{NotOpened}
use Rattle.many_runs.specs.declared.opening.NotOpened.TheVariants as fault
use Rattle.many_runs.specs.declared.running.ManyEnd.{ManyEnd}
use Rattle.many_runs.specs.declared.running.ManyEnd.TheVariants as many_end
use Rattle.many_runs.specs.declared.running.ManyRun.{ManyRun}

-- what is asked of it; the paths of its devices are in characters, times in milliseconds
pub record Asked : Type 0 where
  pub devices : List (List ℕ)
  -- how long a request waits for its answer
  pub time : ℕ
  -- for how long a client id is kept whose holder went
  pub release : Option ℕ
  -- when the serving ends by itself
  pub until : Until
  pub turns : ℕ

abbrev pub asked_by : ManySettings → Asked
asked_by settings = record { devices = settings.devices.now; time = settings.time; release = settings.release; until = settings.until; turns = settings.turns }

-- ---- the opening ----

-- the pumps of each node were started, in their order, or one couldn't be, after which no other was
pub data StartsFirst (pumps : PumpWords) (Others : Bool → List child.Call → Type 0) (ok : Bool) (starts : List child.Call) : Type 0 where
  went : (first later : List child.Call) → starts ≡ first ++ later → StartsPumps pumps true first → Others ok later → StartsFirst pumps Others ok starts
  failed : ok ≡ false → StartsPumps pumps false starts → StartsFirst pumps Others ok starts

abbrev pub StartsEach : List PumpWords → Bool → List child.Call → Type 0
StartsEach [] ok starts = (ok ≡ true) × (starts ≡ [])
StartsEach (pumps ∷ others) ok starts = StartsFirst pumps (StartsEach others) ok starts

-- the hub is opened for the devices, the pumps of the nodes are started, and all are paired where there are any
pub data Opens (socket : List ℕ) (devices : List Address) (pumps : List PumpWords) (result : Result (Unit {0}) NotOpened) (on_hub : List ManyCall) (starts : List child.Call) : Type 0 where
  at_once : result ≡ Ok tt → pumps ≡ [] → on_hub ≡ Opened socket devices true ∷ [] → starts ≡ [] → Opens socket devices pumps result on_hub starts
  paired : result ≡ Ok tt → 0 < length pumps → on_hub ≡ Paired true ∷ Opened socket devices true ∷ [] → StartsEach pumps true starts → Opens socket devices pumps result on_hub starts
  not_opened : result ≡ Err fault.Hub → on_hub ≡ Opened socket devices false ∷ [] → starts ≡ [] → Opens socket devices pumps result on_hub starts
  no_pump : result ≡ Err fault.Start → on_hub ≡ Opened socket devices true ∷ [] → StartsEach pumps false starts → Opens socket devices pumps result on_hub starts
  not_paired : result ≡ Err fault.Hub → 0 < length pumps → on_hub ≡ Paired false ∷ Opened socket devices true ∷ [] → StartsEach pumps true starts → Opens socket devices pumps result on_hub starts

-- the hub's calls have grown by such an opening, with these starts
pub record OpensHub (socket : List ℕ) (devices : List Address) (pumps : List PumpWords) (old new : Option (List ManyCall)) (result : Result (Unit {0}) NotOpened) (starts : List child.Call) : Type 0 where
  pub on_hub : List ManyCall
  pub are : Opens socket devices pumps result on_hub starts
  pub grows : Since old new (λ calls. calls ≡ on_hub)

-- ---- the serving ----

-- clients were served behind this opening
pub record EndsServing (asked : Asked) (opening : List ManyCall) (why : ServeEnd) (calls : List ManyCall) : Type 0 where
  pub served : List ManyCall
  pub whole : calls ≡ served ++ opening
  pub ends : EndsSo (many_proxy (map encode_utf8_all asked.devices) asked.time asked.release) asked.until asked.turns why served

-- the hub was opened for the devices, and then served; or it couldn't be opened, or no memory was there before
pub data Serves (socket : List ℕ) (devices : List Address) (pumps : List PumpWords) (asked : Asked) (old new : Option (List ManyCall)) (ends : ManyEnd) (starts : List child.Call) : Type 0 where
  served : (opening : List ManyCall) (why : ServeEnd) → Opens socket devices pumps (Ok tt) opening starts → Since old new (EndsServing asked opening why) → ends ≡ many_end.Served why → Serves socket devices pumps asked old new ends starts
  not_opened : (why : NotOpened) → OpensHub socket devices pumps old new (Err why) starts → ends ≡ many_end.NotOpened why → Serves socket devices pumps asked old new ends starts
  no_memory : Since old new (λ calls. calls ≡ []) → starts ≡ [] → ends ≡ many_end.NoMemory → Serves socket devices pumps asked old new ends starts

-- that was done, and then each child that was started was stopped, behind the last call on the hub; none is left but by a stop that failed
pub record ServesPlaces (socket : List ℕ) (devices : List Address) (pumps : List PumpWords) (asked : Asked) (hub_old : Option (List ManyCall)) (spawner_old : Option (List child.Call)) (run : ManyRun) (hub_new : Option (List ManyCall)) (hub_made : ℕ) (spawner_new : Option (List child.Call)) : Type 0 where
  pub starts : List child.Call
  pub serves : Serves socket devices pumps asked hub_old hub_new run.end starts
  pub children : StartsAndStops starts run.stopped hub_made spawner_old spawner_new

-- the devices are those of the paths, each with its own bridge
abbrev pub ServesMany : (socket bridge : List ℕ) → Asked → Option (List ManyCall) → Option (List child.Call) → ManyRun → Option (List ManyCall) → ℕ → Option (List child.Call) → Type 0
ServesMany socket bridge asked = let places = places_of (map encode_utf8_all asked.devices) bridge in ServesPlaces socket (map address_in places) (pumps_in places) asked

-- ---- faults ----

-- the hub failed, at the opening or later
abbrev pub IsHubsFault : ManyEnd → Type 0
IsHubsFault (many_end.Served end.HubFault) = Unit {0}
IsHubsFault (many_end.NotOpened fault.Hub) = Unit {0}
IsHubsFault _ = ⊥
