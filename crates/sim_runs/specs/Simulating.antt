-- What simulating a modem does to its files and its hub. The hub's calls have the newest first.
use Rattle.std.specs.Prelude.{◌≡◌, ◌⊎◌, ℕ, Bool, true, false, List, [], ◌∷◌, ◌++◌, Option, Some, None, Result, Ok, Err}
use Rattle.std.specs.Str.{encode_utf8_all}
use Rattle.kit_bytes.specs.declared.Kind.{Kind}
use Rattle.kit_bytes.specs.declared.Kind.TheVariants as kind
use Rattle.kit_io.specs.Growth.{Grows}
use Rattle.file_io.specs.Calls as file
use Rattle.file_io.specs.Reading.{GrowsByFile}
use Rattle.file_io.specs.declared.reading.FileFault.{FileFault}
use Rattle.file_io.specs.declared.reading.FileFault.TheVariants as file_fault
use Rattle.hub_io.specs.Record as hub
use Rattle.hub_io.specs.declared.settings.ServeEnd.{ServeEnd}
use Rattle.hub_io.specs.declared.settings.ServeEnd.TheVariants as serving
use Rattle.proxy_history.specs.Proxy.{Proxy}
use Rattle.proxy_history.specs.Streams.{Framing}
use Rattle.proxy_serving.specs.Ends.{EndsFor}
use Rattle.proxy_serving.specs.Serving.{never}
use Rattle.qmux_frame.specs.Frame as qmux
use Rattle.mbim_frame.specs.Frame as mbim_frame
use Rattle.modem_profile.specs.Profile.{Profile, default_profile}
use Rattle.modem_profile.specs.Reading.{profile_in}
use Rattle.modem_profile.specs.declared.fault.ProfileFault.{ProfileFault}
use Rattle.modem_profile.specs.declared.fault.ProfileFault.TheVariants as profile_fault
use Rattle.modem_rules.specs.Reading.{rules_in}
use Rattle.modem_rules.specs.Rules.{Rules}
use Rattle.modem_rules.specs.declared.fault.RulesFault.{RulesFault}
use Rattle.modem_rules.specs.declared.fault.RulesFault.TheVariants as rules_fault
use Rattle.ruled_modem.specs.Ruled.{conduct_by}
use Rattle.sim_modem.specs.Sim.{Answering, answers}
use Rattle.proxy_history.specs.Events.{Event}
use Rattle.sim_serving.specs.Core.{LacksMemory, TakesMemory}
use Rattle.sim_serving.specs.Proxy.{proxy_of, served}
use Rattle.sim_qmi.specs.Modem as qmi
use Rattle.sim_tunnel.specs.Carrying as mbim
use Rattle.sim_task.specs.declared.SimTask.{SimTask}
use Rattle.sim_runs.specs.declared.sim_end.SimEnd.{SimEnd}
use Rattle.sim_runs.specs.declared.sim_end.SimEnd.TheVariants as sim

-- what the words ask for; paths are in characters
pub record Asked : Type 0 where
  pub kind : Kind
  -- the path of the socket, to which clients connect
  pub socket : List ℕ
  -- by which the modem goes, if any were given
  pub rules : Option Rules
  pub turns : ℕ

-- a modem that goes by no rules
abbrev pub asked_in : Kind → List ℕ → ℕ → Asked
asked_in kind socket turns = record { kind = kind; socket = socket; rules = None; turns = turns }

-- one that goes by the rules, if any were given
abbrev pub asked_of : SimTask → Option Rules → Asked
asked_of task rules = record { kind = task.kind; socket = task.socket; rules = rules; turns = task.turns }

abbrev pub asked_by : Rules → Kind → List ℕ → ℕ → Asked
asked_by rules kind socket turns = record { kind = kind; socket = socket; rules = Some rules; turns = turns }

-- ---- the modem ----

-- serving a modem with these answers, which goes by the rules if any were given
abbrev pub served_by : Kind → Framing → Option Rules → Answering → Proxy
served_by kind size None answering = proxy_of size answering
served_by kind size (Some rules) answering = served size (conduct_by kind rules answering)

-- memory may be lacking at a tick of the clock only where it goes by rules
abbrev pub lacks_by : Option Rules → Event → Type 0
lacks_by None = TakesMemory
lacks_by (Some rules) = LacksMemory (Unit {0})

-- serving a simulated modem of this kind and profile, as serving a proxy
abbrev pub modem_of : Kind → Option Rules → Profile → Proxy
modem_of kind.Qmi rules profile = served_by kind.Qmi qmux.size_of rules (answers (qmi.machine profile))
modem_of kind.Mbim rules profile = served_by kind.Mbim mbim_frame.size_of rules (answers (mbim.machine profile))

-- ---- the hub ----

-- the hub is to listen on the socket of this path, and to open no device
abbrev pub opening : (socket : List ℕ) → (ok : Bool) → hub.Call
opening socket ok = hub.Opened (encode_utf8_all socket) None ok

-- the hub was opened, and then the modem's clients were served
pub record ServesOpened (lacks : Event → Type 0) (modem : Proxy) (socket : List ℕ) (turns : ℕ) (why : ServeEnd) (calls : List hub.Call) : Type 0 where
  pub served : List hub.Call
  pub whole : calls ≡ served ++ opening socket true ∷ []
  pub ends : EndsFor lacks modem never turns why served

-- or it couldn't be opened, or no memory was there before
abbrev pub Serves : (lacks : Event → Type 0) → Proxy → (socket : List ℕ) → (turns : ℕ) → SimEnd → List hub.Call → Type 0
Serves lacks modem socket turns (sim.Served why) calls = ServesOpened lacks modem socket turns why calls
Serves lacks modem socket turns sim.HubFault calls = calls ≡ opening socket false ∷ []
Serves lacks modem socket turns sim.OutOfMemory calls = calls ≡ []
Serves lacks modem socket turns _ calls = ⊥

abbrev pub ServesProfile : Asked → Profile → SimEnd → List hub.Call → Type 0
ServesProfile asked profile ends calls = Serves (lacks_by asked.rules) (modem_of asked.kind asked.rules profile) asked.socket asked.turns ends calls

-- ---- the profile ----

-- a text has a profile, which is served, or this fault; want of memory comes at any text
abbrev pub ServesRead : Asked → Result Profile ProfileFault → SimEnd → List hub.Call → Type 0
ServesRead asked (Ok profile) ends calls = ServesProfile asked profile ends calls
ServesRead asked (Err fault) ends calls = ((ends ≡ sim.ProfileFault (Some fault)) ⊎ (ends ≡ sim.OutOfMemory)) × (calls ≡ [])

-- how it ends where the file isn't read
abbrev pub end_of_file : FileFault → SimEnd
end_of_file file_fault.ReadFault = sim.ReadFault
end_of_file file_fault.Long = sim.ProfileFault None
end_of_file file_fault.OutOfMemory = sim.OutOfMemory

abbrev pub end_of_profile : ProfileFault → SimEnd
end_of_profile profile_fault.OutOfMemory = sim.OutOfMemory
end_of_profile fault = sim.ProfileFault (Some fault)

abbrev pub ServesFile : Asked → Result (List ℕ) FileFault → SimEnd → List hub.Call → Type 0
ServesFile asked (Ok text) ends calls = ServesRead asked (profile_in text) ends calls
ServesFile asked (Err why) ends calls = (ends ≡ end_of_file why) × (calls ≡ [])

-- ---- files and hub ----

-- what is told of both
pub record Told : Type 0 where
  pub files : Option (List file.Call)
  pub hub : Option (List hub.Call)

-- the file at this path was read, and its profile was served
pub record SimulatesFile (path : List ℕ) (asked : Asked) (before after : Told) (ends : SimEnd) : Type 0 where
  pub read : Result (List ℕ) FileFault
  pub reads : GrowsByFile path before.files read after.files
  pub serves : hub.Since before.hub after.hub (ServesFile asked read ends)

-- where no file is named, none is touched, and the default profile is served
abbrev pub Simulates : (path : Option (List ℕ)) → Asked → Told → Told → SimEnd → Type 0
Simulates None asked before after ends = Grows before.files [] after.files × hub.Since before.hub after.hub (ServesProfile asked default_profile ends)
Simulates (Some path) asked before after ends = SimulatesFile (encode_utf8_all path) asked before after ends

-- ---- rules ----

-- how it ends where the file of the rules isn't read
abbrev pub end_of_rules_file : FileFault → SimEnd
end_of_rules_file file_fault.ReadFault = sim.ReadFault
end_of_rules_file file_fault.Long = sim.RulesFault None
end_of_rules_file file_fault.OutOfMemory = sim.OutOfMemory

abbrev pub end_of_rules : RulesFault → SimEnd
end_of_rules rules_fault.OutOfMemory = sim.OutOfMemory
end_of_rules fault = sim.RulesFault (Some fault)

-- nothing more was done
abbrev pub StaysAs : Told → Told → Type 0
StaysAs before after = Grows before.files [] after.files × hub.Since before.hub after.hub (λ calls. calls ≡ [])

-- a text has rules, by which a modem of the profile was served, or this fault; want of memory comes at any text
abbrev pub SimulatesByText : Result Rules RulesFault → (profile : Option (List ℕ)) → Kind → (socket : List ℕ) → (turns : ℕ) → Told → Told → SimEnd → Type 0
SimulatesByText (Ok rules) profile kind socket turns before after ends =
    Simulates profile (asked_by rules kind socket turns) before after ends ⊎ ((ends ≡ sim.OutOfMemory) × StaysAs before after)
SimulatesByText (Err fault) profile kind socket turns before after ends = ((ends ≡ sim.RulesFault (Some fault)) ⊎ (ends ≡ sim.OutOfMemory)) × StaysAs before after

abbrev pub SimulatesByFile : Result (List ℕ) FileFault → (profile : Option (List ℕ)) → Kind → (socket : List ℕ) → (turns : ℕ) → Told → Told → SimEnd → Type 0
SimulatesByFile (Ok text) profile kind socket turns before after ends = SimulatesByText (rules_in kind text) profile kind socket turns before after ends
SimulatesByFile (Err why) profile kind socket turns before after ends = (ends ≡ end_of_rules_file why) × StaysAs before after

-- the file of the rules at this path was read, and then it went on by them
pub record SimulatesByRules (rules : List ℕ) (profile : Option (List ℕ)) (kind : Kind) (socket : List ℕ) (turns : ℕ) (before after : Told) (ends : SimEnd) : Type 0 where
  pub read : Result (List ℕ) FileFault
  pub middle : Option (List file.Call)
  pub reads : GrowsByFile (encode_utf8_all rules) before.files read middle
  pub goes_on : SimulatesByFile read profile kind socket turns (record { files = middle; hub = before.hub }) after ends

-- ---- faults ----

-- a call on the hub failed
abbrev pub IsHubFault : SimEnd → Type 0
IsHubFault sim.HubFault = Unit {0}
IsHubFault (sim.Served serving.HubFault) = Unit {0}
IsHubFault _ = ⊥
