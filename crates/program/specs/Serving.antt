-- What the program does as a proxy, read off what its hub and its children record. Lists of calls on a hub have the newest first, those of calls on a spawner the oldest.
use Rattle.std.specs.Prelude.{◌≡◌, ℕ, Bool, true, false, List, [], ◌∷◌, ◌++◌, Option, Some, Result, Ok, Err}
use Rattle.std.specs.Str.{encode_utf8_all}
use Rattle.link_io.specs.Target.{Address}
use Rattle.hub_io.specs.Record.{Call, Opened, Paired, Since}
use Rattle.child_io.specs.Calls as child
use Rattle.modem_routes.specs.Routes.{Place, AtOnce, BehindPumps, PumpWords}
use Rattle.modem_routes.specs.Reaching.{StartsPumps, StartsAndStops}
use Rattle.kit_bytes.specs.declared.Kind.{Kind}
use Rattle.kit_bytes.specs.declared.Kind.TheVariants as kind
use Rattle.hub_io.specs.declared.settings.ServeEnd.{ServeEnd}
use Rattle.hub_io.specs.declared.settings.Settings.{Settings}
use Rattle.hub_io.specs.declared.settings.Until.{Until}
use Rattle.proxy_serving.specs.Ends.{EndsSo}
use Rattle.proxy_history.specs.Proxy.{Proxy}
use Rattle.qmi_proxy.specs.Proxy as qmi
use Rattle.mbim_proxy.specs.Setup.{mbim_setup}
use Rattle.mbim_proxy.specs.Proxy as mbim
use Rattle.tool_words.specs.declared.proxy.ProxyTask.{ProxyTask}
use Rattle.program.specs.Status.{status_of_end, with_stops}
use Rattle.program.specs.declared.opening.OpenFault.{OpenFault}
use Rattle.program.specs.declared.opening.OpenFault.TheVariants as fault
use Rattle.program.specs.declared.status.Status.{Status}
use Rattle.program.specs.declared.status.Status.TheVariants as status

-- what the words of a proxy ask for; paths are in characters, times in milliseconds
pub record Asked : Type 0 where
  -- the path of the device, by which clients open it
  pub device : List ℕ
  -- the path of the socket, to which they connect
  pub socket : List ℕ
  -- when the serving ends by itself
  pub until : Until
  -- how long a request waits for its answer
  pub time : ℕ
  -- for how long a client id is kept whose holder went
  pub release : Option ℕ
  pub turns : ℕ

abbrev pub asked_in : ProxyTask → Asked
asked_in task = record {
  device = task.device;
  socket = task.socket;
  until = record { empty = task.empty; lost = task.exit_when_lost };
  time = task.time;
  release = task.release;
  turns = task.turns;
}

abbrev pub asked_with : (socket : List ℕ) → Settings → Asked
asked_with socket settings = record { device = settings.device; socket = socket; until = settings.until; time = settings.time; release = settings.release; turns = settings.turns }

-- a proxy of this kind, for the device of this path; the modem is there at the opening
abbrev pub proxy_for : Kind → (device : List ℕ) → (time_limit : ℕ) → (release : Option ℕ) → Proxy
proxy_for kind.Qmi device time_limit release = qmi.proxy_of (record { device = encode_utf8_all device; time_limit = time_limit; starts_away = false; release = release })
proxy_for kind.Mbim device time_limit release = mbim.proxy_of (mbim_setup device time_limit false)

-- ---- the opening, of a hub at a socket and for a device ----

-- a device that is there at once: the hub is opened, and nothing is started
pub data OpensAtOnce (socket : List ℕ) (device : Address) (result : Result (Unit {0}) OpenFault) (on_hub : List Call) (starts : List child.Call) : Type 0 where
  opened : result ≡ Ok tt → on_hub ≡ Opened socket (Some device) true ∷ [] → starts ≡ [] → OpensAtOnce socket device result on_hub starts
  not_opened : result ≡ Err fault.Hub → on_hub ≡ Opened socket (Some device) false ∷ [] → starts ≡ [] → OpensAtOnce socket device result on_hub starts

-- a node: the hub is opened for its bridge, its pumps are started, and they are paired
pub data OpensBehindPumps (socket : List ℕ) (bridge : Address) (pumps : PumpWords) (result : Result (Unit {0}) OpenFault) (on_hub : List Call) (starts : List child.Call) : Type 0 where
  paired : result ≡ Ok tt → on_hub ≡ Paired true ∷ Opened socket (Some bridge) true ∷ [] → StartsPumps pumps true starts → OpensBehindPumps socket bridge pumps result on_hub starts
  no_bridge : result ≡ Err fault.Hub → on_hub ≡ Opened socket (Some bridge) false ∷ [] → starts ≡ [] → OpensBehindPumps socket bridge pumps result on_hub starts
  no_pump : result ≡ Err fault.Start → on_hub ≡ Opened socket (Some bridge) true ∷ [] → StartsPumps pumps false starts → OpensBehindPumps socket bridge pumps result on_hub starts
  not_paired : result ≡ Err fault.Hub → on_hub ≡ Paired false ∷ Opened socket (Some bridge) true ∷ [] → StartsPumps pumps true starts → OpensBehindPumps socket bridge pumps result on_hub starts

-- wherever the device is
abbrev pub Opens : List ℕ → Place → Result (Unit {0}) OpenFault → List Call → List child.Call → Type 0
Opens socket (AtOnce address) result = OpensAtOnce socket address result
Opens socket (BehindPumps address pumps) result = OpensBehindPumps socket address pumps result

-- the hub's calls have grown by such an opening, with these starts
pub record OpensHub (socket : List ℕ) (place : Place) (old new : Option (List Call)) (result : Result (Unit {0}) OpenFault) (starts : List child.Call) : Type 0 where
  pub on_hub : List Call
  pub are : Opens socket place result on_hub starts
  pub grows : Since old new (λ calls. calls ≡ on_hub)

-- how a run ends whose device wasn't opened
abbrev pub status_of_opening : OpenFault → Status
status_of_opening fault.Hub = status.HubFault
status_of_opening fault.Start = status.StartFault

-- ---- the serving ----

-- clients were served behind this opening
pub record EndsServing (kind : Kind) (asked : Asked) (opening : List Call) (why : ServeEnd) (calls : List Call) : Type 0 where
  pub served : List Call
  pub whole : calls ≡ served ++ opening
  pub ends : EndsSo (proxy_for kind asked.device asked.time asked.release) asked.until asked.turns why served

-- the hub was opened and paired once, at the socket of the words and for a device that is there, and then served; or it couldn't be opened, or no memory was there before
pub data Serves (kind : Kind) (asked : Asked) (place : Place) (old new : Option (List Call)) (ends : Status) (starts : List child.Call) : Type 0 where
  served : (opening : List Call) (why : ServeEnd) → Opens (encode_utf8_all asked.socket) place (Ok tt) opening starts → Since old new (EndsServing kind asked opening why) → ends ≡ status_of_end why → Serves kind asked place old new ends starts
  not_opened : (why : OpenFault) → OpensHub (encode_utf8_all asked.socket) place old new (Err why) starts → ends ≡ status_of_opening why → Serves kind asked place old new ends starts
  no_memory : Since old new (λ calls. calls ≡ []) → starts ≡ [] → ends ≡ status.OutOfMemory → Serves kind asked place old new ends starts

-- that was done, and then each child that was started was stopped, behind the last call on the hub; none is left but by a stop that failed
pub record ServesProxy (kind : Kind) (asked : Asked) (place : Place) (hub_old : Option (List Call)) (spawner_old : Option (List child.Call)) (result : Status) (hub_new : Option (List Call)) (hub_made : ℕ) (spawner_new : Option (List child.Call)) : Type 0 where
  pub starts : List child.Call
  pub ends : Status
  pub serves : Serves kind asked place hub_old hub_new ends starts
  pub stopped : Bool
  pub children : StartsAndStops starts stopped hub_made spawner_old spawner_new
  pub is : result ≡ with_stops stopped ends
