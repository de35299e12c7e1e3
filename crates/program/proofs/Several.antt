-- How a run ends as a proxy of several devices.
use Rattle.std.proofs.Common.{◌≡◌, ◌⊎◌, ℕ, Bool, true, false, [], refl, ap, sym, ◌∙◌, inl, inr, Option, List, Result, Ok, Err}
use Rattle.std.proofs.lemmas.List.Elements.{All-nil}
use Rattle.kit_io.proofs.Growth.{Grows-none}
use Rattle.hub_io.proofs.Record.{since-starts}
use Rattle.hub_io.specs.declared.settings.ServeEnd.TheVariants as end
use Rattle.child_io.specs.Calls as child
use Rattle.many_io.specs.Record.{ManyCall}
use Rattle.many_runs.specs.Running.{IsHubsFault, no_memory}
use Rattle.many_runs.specs.declared.opening.NotOpened.TheVariants as fault
use Rattle.many_runs.specs.declared.running.ManyEnd.{ManyEnd}
use Rattle.many_runs.specs.declared.running.ManyEnd.TheVariants.{Served, NotOpened, NoMemory}
use Rattle.tool_words.specs.declared.command.ToolCommand.{ToolCommand}
use Rattle.tool_words.specs.declared.command.ToolCommand.TheVariants.{Qmicli, Mbimcli, Request, PduSubmit, Describe, Proxy, Proxies, Simulator, Pump, Rig, Transparency, Dissect, Version}
use Rattle.tool_words.specs.declared.fault.UsageKind.{UsageKind}
use Rattle.tool_words.specs.declared.proxies.ProxiesTask.{ProxiesTask}
use Rattle.program.specs.Several.{LeavesSeveralAlone, RunsSeveral, ServesIfSeveral, ServesSeveral, status_of_many}
use Rattle.program.specs.Status.{IsOfProxy, status_of_end, with_stops}
use Rattle.program.specs.declared.status.Status.TheVariants as status

-- it ends as a proxy ends
pub is_of_proxy : (stopped : Bool) (ends : ManyEnd) → IsOfProxy (with_stops stopped (status_of_many ends))
is_of_proxy true (Served end.Stopped) = tt
is_of_proxy true (Served end.Empty) = tt
is_of_proxy true (Served end.Lost) = tt
is_of_proxy true (Served end.HubFault) = tt
is_of_proxy true (Served end.TurnsSpent) = tt
is_of_proxy true (Served end.OutOfMemory) = tt
is_of_proxy true (NotOpened fault.Hub) = tt
is_of_proxy true (NotOpened fault.Start) = tt
is_of_proxy true NoMemory = tt
is_of_proxy false (Served end.Stopped) = tt
is_of_proxy false (Served end.Empty) = tt
is_of_proxy false (Served end.Lost) = tt
is_of_proxy false (Served end.HubFault) = tt
is_of_proxy false (Served end.TurnsSpent) = tt
is_of_proxy false (Served end.OutOfMemory) = tt
is_of_proxy false (NotOpened fault.Hub) = tt
is_of_proxy false (NotOpened fault.Start) = tt
is_of_proxy false NoMemory = tt

-- only one whose hub failed ends with its fault
pub hub_fault_is : (stopped : Bool) (ends : ManyEnd) → with_stops stopped (status_of_many ends) ≡ status.HubFault → IsHubsFault ends
hub_fault_is true (Served end.Stopped) e = absurd (cc)
hub_fault_is true (Served end.Empty) e = absurd (cc)
hub_fault_is true (Served end.Lost) e = absurd (cc)
hub_fault_is true (Served end.HubFault) e = tt
hub_fault_is true (Served end.TurnsSpent) e = absurd (cc)
hub_fault_is true (Served end.OutOfMemory) e = absurd (cc)
hub_fault_is true (NotOpened fault.Hub) e = tt
hub_fault_is true (NotOpened fault.Start) e = absurd (cc)
hub_fault_is true NoMemory e = absurd (cc)
hub_fault_is false (Served end.Stopped) e = absurd (cc)
hub_fault_is false (Served end.Empty) e = absurd (cc)
hub_fault_is false (Served end.Lost) e = absurd (cc)
hub_fault_is false (Served end.HubFault) e = tt
hub_fault_is false (Served end.TurnsSpent) e = absurd (cc)
hub_fault_is false (Served end.OutOfMemory) e = absurd (cc)
hub_fault_is false (NotOpened fault.Hub) e = tt
hub_fault_is false (NotOpened fault.Start) e = absurd (cc)
hub_fault_is false NoMemory e = absurd (cc)

-- only one that couldn't start or stop a child ends with a start fault
pub start_fault_is : (stopped : Bool) (ends : ManyEnd) → with_stops stopped (status_of_many ends) ≡ status.StartFault → (ends ≡ NotOpened fault.Start) ⊎ (stopped ≡ false)
start_fault_is false ends e = inr refl
start_fault_is true (Served end.Stopped) e = absurd (cc)
start_fault_is true (Served end.Empty) e = absurd (cc)
start_fault_is true (Served end.Lost) e = absurd (cc)
start_fault_is true (Served end.HubFault) e = absurd (cc)
start_fault_is true (Served end.TurnsSpent) e = absurd (cc)
start_fault_is true (Served end.OutOfMemory) e = absurd (cc)
start_fault_is true (NotOpened fault.Hub) e = absurd (cc)
start_fault_is true (NotOpened fault.Start) e = inl refl
start_fault_is true NoMemory e = absurd (cc)

-- without memory nothing was done
pub nothing_done : {task : ProxiesTask} (hub : Option (List ManyCall)) (made : ℕ) (spawner : Option (List child.Call)) → ServesSeveral task hub spawner status.OutOfMemory hub made spawner
nothing_done hub made spawner = record {
  run = record { end = NoMemory; stopped = true };
  serves = record {
    starts = [];
    serves = (let None : List ManyCall → Type 0 = λ calls. calls ≡ [] in no_memory (since-starts hub None refl) refl refl);
    children = record { tries = []; each = refl; all = refl; grows = Grows-none spawner; left = record { failed = All-nil _; none = λ all. refl } };
  };
  is = refl;
}

-- whatever the words name
pub nothing_of_several : (words : Result ToolCommand UsageKind) (hub : Option (List ManyCall)) (made : ℕ) (spawner : Option (List child.Call)) → RunsSeveral words hub spawner status.OutOfMemory hub made spawner
nothing_of_several (Ok (Qmicli task)) hub made spawner = inr refl
nothing_of_several (Ok (Mbimcli task)) hub made spawner = inr refl
nothing_of_several (Ok (Request task)) hub made spawner = inr refl
nothing_of_several (Ok (PduSubmit number text reference)) hub made spawner = inr refl
nothing_of_several (Ok (Describe path message)) hub made spawner = inr refl
nothing_of_several (Ok (Proxy task)) hub made spawner = inr refl
nothing_of_several (Ok (Proxies task)) hub made spawner = nothing_done hub made spawner
nothing_of_several (Ok (Simulator kind socket profile rules turns keep)) hub made spawner = inr refl
nothing_of_several (Ok (Pump read node bridge verbose)) hub made spawner = inr refl
nothing_of_several (Ok (Rig kind clients messages number)) hub made spawner = inr refl
nothing_of_several (Ok (Transparency kind)) hub made spawner = inr refl
nothing_of_several (Ok (Dissect kind tables turns capture)) hub made spawner = inr refl
nothing_of_several (Ok Version) hub made spawner = inr refl
nothing_of_several (Err why) hub made spawner = inr refl

pub nothing_served : (words : Result ToolCommand UsageKind) (hub : Option (List ManyCall)) (made : ℕ) (spawner : Option (List child.Call)) → ServesIfSeveral words hub spawner status.OutOfMemory hub made spawner
nothing_served (Ok (Qmicli task)) hub made spawner = tt
nothing_served (Ok (Mbimcli task)) hub made spawner = tt
nothing_served (Ok (Request task)) hub made spawner = tt
nothing_served (Ok (PduSubmit number text reference)) hub made spawner = tt
nothing_served (Ok (Describe path message)) hub made spawner = tt
nothing_served (Ok (Proxy task)) hub made spawner = tt
nothing_served (Ok (Proxies task)) hub made spawner = nothing_done hub made spawner
nothing_served (Ok (Simulator kind socket profile rules turns keep)) hub made spawner = tt
nothing_served (Ok (Pump read node bridge verbose)) hub made spawner = tt
nothing_served (Ok (Rig kind clients messages number)) hub made spawner = tt
nothing_served (Ok (Transparency kind)) hub made spawner = tt
nothing_served (Ok (Dissect kind tables turns capture)) hub made spawner = tt
nothing_served (Ok Version) hub made spawner = tt
nothing_served (Err why) hub made spawner = tt

pub several_untouched : {M : Type 0} (words : Result ToolCommand UsageKind) (many : M) → LeavesSeveralAlone words many many
several_untouched (Ok (Qmicli task)) many = refl
several_untouched (Ok (Mbimcli task)) many = refl
several_untouched (Ok (Request task)) many = refl
several_untouched (Ok (PduSubmit number text reference)) many = refl
several_untouched (Ok (Describe path message)) many = refl
several_untouched (Ok (Proxy task)) many = refl
several_untouched (Ok (Proxies task)) many = tt
several_untouched (Ok (Simulator kind socket profile rules turns keep)) many = refl
several_untouched (Ok (Pump read node bridge verbose)) many = refl
several_untouched (Ok (Rig kind clients messages number)) many = refl
several_untouched (Ok (Transparency kind)) many = refl
several_untouched (Ok (Dissect kind tables turns capture)) many = refl
several_untouched (Ok Version) many = refl
several_untouched (Err why) many = refl

-- what a run does to the hub of several devices that finds no memory for its words
pub ruleset untouched = (nothing_of_several, nothing_served, several_untouched)
