-- What the program does as a proxy of several devices. Lists of calls on a hub have the newest first, those of calls on a spawner the oldest.
use Rattle.std.specs.Prelude.{◌≡◌, ◌⊎◌, ℕ, List, false, length, Option, Result, Ok, Err}
use Rattle.std.specs.Str.{encode_utf8_all}
use Rattle.kit_io.specs.Causes.{Rose}
use Rattle.child_io.specs.Calls as child
use Rattle.many_io.specs.Record.{ManyCall}
use Rattle.many_runs.specs.Running.{Asked, ServesMany}
use Rattle.many_runs.specs.declared.opening.NotOpened.TheVariants as fault
use Rattle.many_runs.specs.declared.running.ManyEnd.{ManyEnd}
use Rattle.many_runs.specs.declared.running.ManyEnd.TheVariants.{Served, NotOpened, NoMemory}
use Rattle.many_runs.specs.declared.running.ManyRun.{ManyRun}
use Rattle.tool_words.specs.declared.command.ToolCommand.{ToolCommand}
use Rattle.tool_words.specs.declared.command.ToolCommand.TheVariants.{Proxies}
use Rattle.tool_words.specs.declared.fault.UsageKind.{UsageKind}
use Rattle.tool_words.specs.declared.fault.UsageKind.TheVariants as usage
use Rattle.tool_words.specs.declared.proxies.ProxiesTask.{ProxiesTask}
use Rattle.program.specs.Status.{status_of_end, with_stops}
use Rattle.program.specs.declared.status.Status.{Status}
use Rattle.program.specs.declared.status.Status.TheVariants as status

-- what the words ask for
abbrev pub several_asked : ProxiesTask → Asked
several_asked task = record {
  devices = task.devices;
  time = task.time;
  release = task.release;
  until = record { empty = task.empty; lost = false };
  turns = task.turns;
}

-- how a run ends whose proxy ended so
abbrev pub status_of_many : ManyEnd → Status
status_of_many (Served why) = status_of_end why
status_of_many (NotOpened fault.Hub) = status.HubFault
status_of_many (NotOpened fault.Start) = status.StartFault
status_of_many NoMemory = status.OutOfMemory

-- the devices of the words were served, each client as a proxy of its own device would serve it
pub record ServesSeveral (task : ProxiesTask) (hub_old : Option (List ManyCall)) (spawner_old : Option (List child.Call)) (result : Status) (hub_new : Option (List ManyCall)) (hub_made : ℕ) (spawner_new : Option (List child.Call)) : Type 0 where
  pub run : ManyRun
  pub serves : ServesMany (encode_utf8_all task.socket) (encode_utf8_all task.bridge) (several_asked task) hub_old spawner_old run hub_new hub_made spawner_new
  pub is : result ≡ with_stops run.stopped (status_of_many run.end)

-- ---- by the words ----

-- the hub of several devices has room for those of the words
abbrev pub HasRoom : Result ToolCommand UsageKind → ℕ → Type 0
HasRoom (Ok (Proxies task)) count = count ≡ length task.devices
HasRoom _ count = Unit {0}

-- a proxy of several devices serves them on that hub; other words are refused, unless there was no memory to read them
abbrev pub RunsSeveral : Result ToolCommand UsageKind → Option (List ManyCall) → Option (List child.Call) → Status → Option (List ManyCall) → ℕ → Option (List child.Call) → Type 0
RunsSeveral (Ok (Proxies task)) hub_old spawner_old result hub_new hub_made spawner_new = ServesSeveral task hub_old spawner_old result hub_new hub_made spawner_new
RunsSeveral (Err why) hub_old spawner_old result hub_new hub_made spawner_new = (result ≡ status.Usage why) ⊎ (result ≡ status.OutOfMemory)
RunsSeveral _ hub_old spawner_old result hub_new hub_made spawner_new = (result ≡ status.Usage usage.UnknownTool) ⊎ (result ≡ status.OutOfMemory)

-- and all else leaves that hub as it was
abbrev pub LeavesSeveralAlone : {M : Type 0} → Result ToolCommand UsageKind → M → M → Type 0
LeavesSeveralAlone (Ok (Proxies task)) before after = Unit {0}
LeavesSeveralAlone _ before after = after ≡ before

-- ---- of `run`, whatever the words ----

abbrev pub ServesIfSeveral : Result ToolCommand UsageKind → Option (List ManyCall) → Option (List child.Call) → Status → Option (List ManyCall) → ℕ → Option (List child.Call) → Type 0
ServesIfSeveral (Ok (Proxies task)) hub_old spawner_old result hub_new hub_made spawner_new = ServesSeveral task hub_old spawner_old result hub_new hub_made spawner_new
ServesIfSeveral _ hub_old spawner_old result hub_new hub_made spawner_new = Unit {0}

-- a hub's fault comes of a count that rose: that of the hub of several devices where those are served, else that of the hub of one
abbrev pub FailsOnHub : Result ToolCommand UsageKind → (hub_old hub_new many_old many_new : ℕ) → Type 0
FailsOnHub (Ok (Proxies task)) hub_old hub_new many_old many_new = Rose many_old many_new
FailsOnHub _ hub_old hub_new many_old many_new = Rose hub_old hub_new
