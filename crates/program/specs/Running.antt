-- What the program does: to its link, its hub, its children, its files and its bench, and what it prints.
use Rattle.std.specs.Prelude.{◌≡◌, ◌⊎◌, ℕ, Bool, true, false, List, [], Option, Some, None, Result, Ok, Err, if◌then◌else◌}
use Rattle.std.specs.Str.{encode_utf8_all}
use Rattle.kit_io.specs.Growth.{Grows}
use Rattle.link_io.specs.Calls as link
use Rattle.hub_io.specs.Record as hub
use Rattle.child_io.specs.Calls as child
use Rattle.file_io.specs.Calls as file
use Rattle.core_bench.specs.Runs.{Run}
use Rattle.modem_routes.specs.Routes.{Path, place_of}
use Rattle.modem_routes.specs.Reaching.{LinkFails}
use Rattle.kit_io.specs.Causes.{Rose}
use Rattle.kit_io.specs.Counts.{together}
use Rattle.kit_bytes.specs.declared.Kind.{Kind}
use Rattle.kit_bytes.specs.declared.Kind.TheVariants as kind
use Rattle.device_core.specs.declared.plan.QmiPlan.{QmiPlan}
use Rattle.mbim_session.specs.declared.plan.MbimPlan.{MbimPlan}
use Rattle.mbim_session.specs.declared.plan.MbimEnd.{MbimEnd}
use Rattle.qmi_services.specs.declared.answers.QmiEnd.{QmiEnd}
use Rattle.tunnel_session.specs.declared.ends.TunnelEnd.{TunnelEnd}
use Rattle.tool_words.specs.declared.command.ToolCommand.{ToolCommand}
use Rattle.tool_words.specs.declared.command.ToolCommand.TheVariants.{Qmicli, Mbimcli, Request, PduSubmit, Describe, Proxy, Proxies, Simulator, Pump, Rig, Transparency, Dissect, Version}
use Rattle.tool_words.specs.declared.fault.UsageKind.{UsageKind}
use Rattle.tool_words.specs.declared.form.AnswerForm.{AnswerForm}
use Rattle.tool_words.specs.declared.form.AnswerForm.TheVariants as form
use Rattle.tool_words.specs.declared.mbimcli.MbimTask.{MbimTask}
use Rattle.tool_words.specs.declared.qmicli.QmiTask.{QmiTask}
use Rattle.tool_words.specs.declared.fault.UsageKind.TheVariants as usage
use Rattle.sms_pdu.specs.Parts.{messages}
use Rattle.sms_print.specs.Printed.{hex_lines}
use Rattle.sms_print.specs.declared.decoding.Decoding.{Decoding}
use Rattle.sms_print.specs.declared.decoding.Decoding.TheVariants.{Nothing}
use Rattle.link_session.specs.declared.fault.SessionFault.{SessionFault}
use Rattle.tool_runs.specs.declared.session.Refusal.{Refusal}
use Rattle.tool_runs.specs.Asking.{Asked, asked_of, PrintsText, shown}
use Rattle.tool_runs.specs.Asking as asking
use Rattle.tool_runs.specs.Qmi.{qmi_asked}
use Rattle.tool_runs.specs.Mbim.{mbim_asked}
use Rattle.tool_runs.specs.Tunnel.{tunnel_asked}
use Rattle.tool_runs.specs.Json.{mbim_json, no_bodies, qmi_json, tunnel_json}
use Rattle.tool_runs.specs.Describing.{DescribesFile}
use Rattle.dissect.specs.Tables.{Dissects}
use Rattle.sim_supervision.specs.Supervision.{SupervisesOrLacksMemory}
use Rattle.sim_supervision.specs.Words.{start_words}
use Rattle.sim_runs.specs.Simulating as sim
use Rattle.program.specs.declared.status.Status.{Status}
use Rattle.program.specs.declared.status.Status.TheVariants as status
use Rattle.program.specs.Status.{EndsAs, IsOfProxy, status_of, status_of_capture, status_of_keeping, status_of_sim}
use Rattle.program.specs.Tables.{AsksByTables}
use Rattle.program.specs.Routes.{Asks, route_to}
use Rattle.program.specs.Serving.{ServesProxy, asked_in}
use Rattle.program.specs.Pumping.{PumpsTo}
use Rattle.rig.specs.Playing.{AddsRuns}
use Rattle.program.specs.Rigging.{RigsTo, ShowsTransparency}
use Rattle.program.specs.Telling.{TellsVersion}

-- what is told of the outside, before and after
pub record Told : Type 0 where
  pub link : Option (List link.Call)
  pub hub : Option (List hub.Call)
  pub spawner : Option (List child.Call)
  pub files : Option (List file.Call)
  pub out : Option (List ℕ)
  -- the newest first
  pub bench : Option (List Run)
  -- how many calls were made on the link, the hub and the output
  pub link_made : ℕ
  pub hub_made : ℕ
  pub out_made : ℕ

-- nothing was done
pub record Untouched (before after : Told) : Type 0 where
  pub link : Grows before.link [] after.link
  pub hub : hub.Since before.hub after.hub (λ calls. calls ≡ [])
  pub spawner : Grows before.spawner [] after.spawner
  pub files : Grows before.files [] after.files
  pub out : Grows before.out [] after.out
  pub bench : AddsRuns before.bench [] after.bench

-- ---- the tools ----

-- what a tool does is told by its link, its children and its output
abbrev pub of_tool : Told → asking.Told
of_tool told = record { link = told.link; spawner = told.spawner; out = told.out; made = together told.link_made told.out_made }

abbrev pub qmi_plan : QmiTask → QmiPlan
qmi_plan task = record { device = task.device; proxied = task.link.proxied; cid = task.cid; keep = task.keep; timeout = task.link.timeout; request = task.request }

abbrev pub mbim_plan : MbimTask → MbimPlan
mbim_plan task = record { device = task.device; proxied = task.link.proxied; close = task.close; timeout = task.link.timeout; request = task.request }

-- an answer is printed in lines, with what its messages say behind them, told so, or as one JSON object
abbrev pub asked_in_form : {Plan End : Type 0} → AnswerForm → Decoding → (Plan → List link.Call → Result End SessionFault → Type 0) → (End → Option Refusal) → (printed : End → List ℕ) → (bodies : End → List (List ℕ)) → (line : End → List ℕ) → Plan → Asked End
asked_in_form form.Lines decoding session refused printed bodies line plan = asked_of session refused (shown Nothing printed bodies) plan
asked_in_form form.Decoded decoding session refused printed bodies line plan = asked_of session refused (shown decoding printed bodies) plan
asked_in_form form.Json decoding session refused printed bodies line plan = asked_of session refused (shown Nothing line no_bodies) plan

-- a QMI modem is asked itself, or inside an MBIM modem
abbrev pub itself_asked : AnswerForm → QmiPlan → Asked QmiEnd
itself_asked form.Lines plan = qmi_asked false plan
itself_asked form.Decoded plan = qmi_asked true plan
itself_asked form.Json plan = qmi_json plan

abbrev pub inside_asked : AnswerForm → QmiPlan → Asked TunnelEnd
inside_asked form.Lines plan = tunnel_asked false plan
inside_asked form.Decoded plan = tunnel_asked true plan
inside_asked form.Json plan = tunnel_json plan

abbrev pub AsksQmi : Kind → AnswerForm → QmiPlan → (path : Path) → asking.Told → asking.Told → Status → Type 0
AsksQmi kind.Qmi form plan path before after result = Asks path (itself_asked form plan) before after result
AsksQmi kind.Mbim form plan path before after result = Asks path (inside_asked form plan) before after result

-- and an MBIM modem
abbrev pub mbim_asked_in : AnswerForm → MbimPlan → Asked MbimEnd
mbim_asked_in form.Lines plan = mbim_asked false plan
mbim_asked_in form.Decoded plan = mbim_asked true plan
mbim_asked_in form.Json plan = mbim_json plan

-- ---- what the words ask for ----

-- a tool asks a modem, also by the tables of a file, makes short messages or describes a file, a proxy or a simulated modem serves, one of several devices does (`Several.antt` says how), one is kept running, a pump passes on, a rig runs a core on the bench, or a tool alone, a captured stream is shown, and the version is printed
abbrev pub RunsCommand : ToolCommand → Told → Told → Status → Type 0
RunsCommand (Qmicli task) before after result = AsksQmi task.link.kind task.form (qmi_plan task) (route_to task.device task.link) (of_tool before) (of_tool after) result
RunsCommand (Mbimcli task) before after result = Asks (route_to task.device task.link) (mbim_asked_in task.form (mbim_plan task)) (of_tool before) (of_tool after) result
RunsCommand (Request task) before after result = AsksByTables task before.files after.files (of_tool before) (of_tool after) result
RunsCommand (PduSubmit number text reference) before after result = EndsAs status_of result (λ ends. PrintsText (hex_lines (messages number text reference)) before.out ends after.out)
RunsCommand (Describe path message) before after result = EndsAs status_of result (λ ends. DescribesFile (encode_utf8_all path) message before.files after.files before.out ends after.out)
RunsCommand (Proxy task) before after result =
    ServesProxy task.kind (asked_in task) (place_of (encode_utf8_all task.device) (encode_utf8_all task.bridge)) before.hub before.spawner result after.hub after.hub_made after.spawner
RunsCommand (Proxies task) before after result = IsOfProxy result
RunsCommand (Simulator kind socket profile None turns None) before after result =
    EndsAs status_of_sim result (λ ends. sim.Simulates profile (sim.asked_in kind socket turns) (record { files = before.files; hub = before.hub }) (record { files = after.files; hub = after.hub }) ends)
RunsCommand (Simulator kind socket profile (Some rules) turns None) before after result =
    EndsAs status_of_sim result (λ ends. sim.SimulatesByRules rules profile kind socket turns (record { files = before.files; hub = before.hub }) (record { files = after.files; hub = after.hub }) ends)
RunsCommand (Simulator kind socket profile rules turns (Some most)) before after result =
    EndsAs status_of_keeping result (λ ends. SupervisesOrLacksMemory (start_words kind socket turns profile rules) most before.spawner ends after.spawner)
RunsCommand (Pump read node bridge verbose) before after result = PumpsTo read node bridge before.link before.files result after.link after.files
RunsCommand (Rig kind clients messages number) before after result = RigsTo kind clients messages number before.bench before.out result after.bench after.out
RunsCommand (Transparency kind) before after result = ShowsTransparency kind before.bench before.out result after.bench after.out
RunsCommand (Dissect kind tables turns capture) before after result =
    EndsAs status_of_capture result (λ ends. Dissects kind tables turns capture (record { files = before.files; out = before.out }) (record { files = after.files; out = after.out }) ends)
RunsCommand Version before after result = TellsVersion before.out result after.out

-- what the words ask for, or that they are refused, and why
abbrev pub RunsWords : Result ToolCommand UsageKind → Told → Told → Status → Type 0
RunsWords (Ok command) before after result = RunsCommand command before after result
RunsWords (Err why) before after result = result ≡ status.Usage why

-- the tools that ask a modem
abbrev pub is_of_tool : ToolCommand → Bool
is_of_tool (Qmicli task) = true
is_of_tool (Mbimcli task) = true
is_of_tool (Request task) = true
is_of_tool (PduSubmit number text reference) = true
is_of_tool (Describe path message) = true
is_of_tool _ = false

abbrev pub is_of_proxy : ToolCommand → Bool
is_of_proxy (Proxy task) = true
is_of_proxy _ = false

abbrev pub is_of_simulator : ToolCommand → Bool
is_of_simulator (Simulator kind socket profile rules turns keep) = true
is_of_simulator _ = false

abbrev pub is_of_pump : ToolCommand → Bool
is_of_pump (Pump read node bridge verbose) = true
is_of_pump _ = false

abbrev pub is_of_rig : ToolCommand → Bool
is_of_rig (Rig kind clients messages number) = true
is_of_rig (Transparency kind) = true
is_of_rig _ = false

-- what the words of some tools ask for; the words of others are refused, as those of an unknown one
abbrev pub words_for : (ToolCommand → Bool) → Result ToolCommand UsageKind → Result ToolCommand UsageKind
words_for is_mine (Ok command) = if is_mine command then Ok command else Err usage.UnknownTool
words_for is_mine (Err why) = Err why

-- unless there was no memory to read them
abbrev pub Runs : Result ToolCommand UsageKind → Told → Told → Status → Type 0
Runs words before after result = RunsWords words before after result ⊎ ((result ≡ status.OutOfMemory) × Untouched before after)

-- ---- what is left alone ----

-- the objects of the outside themselves
pub record Objects (L H P F O B : Type 0) : Type 0 where
  pub link : L
  pub hub : H
  pub spawner : P
  pub files : F
  pub out : O
  pub bench : B

-- in the place of an object that isn't there
pub data NoObject : Type 0 where
  Absent : NoObject

-- what a command has no use for is left as it was: hub, files and bench by one that asks a modem, hub and bench by one whose request a file gives, all but output by one that makes short messages, all but files and output by one that describes a file, all but hub and children by a proxy, all but children (and the hub of several devices) by one of several devices, all but hub and files by a simulated modem, the files too where neither profile nor rules are named, all but children by one that is kept running, all but link and files by a pump, all but bench and output by a rig, all but files and output where a captured stream is shown, and all but the output where the version is printed
abbrev pub CommandLeavesAlone : {L H P F O B : Type 0} → ToolCommand → Objects L H P F O B → Objects L H P F O B → Type 0
CommandLeavesAlone (Qmicli task) before after = (after.hub ≡ before.hub) × (after.files ≡ before.files) × (after.bench ≡ before.bench)
CommandLeavesAlone (Mbimcli task) before after = (after.hub ≡ before.hub) × (after.files ≡ before.files) × (after.bench ≡ before.bench)
CommandLeavesAlone (Request task) before after = (after.hub ≡ before.hub) × (after.bench ≡ before.bench)
CommandLeavesAlone (PduSubmit number text reference) before after = (after.link ≡ before.link) × (after.hub ≡ before.hub) × (after.spawner ≡ before.spawner) × (after.files ≡ before.files) × (after.bench ≡ before.bench)
CommandLeavesAlone (Describe path message) before after = (after.link ≡ before.link) × (after.hub ≡ before.hub) × (after.spawner ≡ before.spawner) × (after.bench ≡ before.bench)
CommandLeavesAlone (Proxy task) before after = (after.link ≡ before.link) × (after.files ≡ before.files) × (after.out ≡ before.out) × (after.bench ≡ before.bench)
CommandLeavesAlone (Proxies task) before after = (after.link ≡ before.link) × (after.hub ≡ before.hub) × (after.files ≡ before.files) × (after.out ≡ before.out) × (after.bench ≡ before.bench)
CommandLeavesAlone (Simulator kind socket profile rules turns None) before after = (after.link ≡ before.link) × (after.spawner ≡ before.spawner) × (profile ≡ None → rules ≡ None → after.files ≡ before.files) × (after.out ≡ before.out) × (after.bench ≡ before.bench)
CommandLeavesAlone (Simulator kind socket profile rules turns (Some most)) before after = (after.link ≡ before.link) × (after.hub ≡ before.hub) × (after.files ≡ before.files) × (after.out ≡ before.out) × (after.bench ≡ before.bench)
CommandLeavesAlone (Pump read node bridge verbose) before after = (after.hub ≡ before.hub) × (after.spawner ≡ before.spawner) × (after.out ≡ before.out) × (after.bench ≡ before.bench)
CommandLeavesAlone (Rig kind clients messages number) before after = (after.link ≡ before.link) × (after.hub ≡ before.hub) × (after.spawner ≡ before.spawner) × (after.files ≡ before.files)
CommandLeavesAlone (Transparency kind) before after = (after.link ≡ before.link) × (after.hub ≡ before.hub) × (after.spawner ≡ before.spawner) × (after.files ≡ before.files)
CommandLeavesAlone (Dissect kind tables turns capture) before after = (after.link ≡ before.link) × (after.hub ≡ before.hub) × (after.spawner ≡ before.spawner) × (after.bench ≡ before.bench)
CommandLeavesAlone Version before after = (after.link ≡ before.link) × (after.hub ≡ before.hub) × (after.spawner ≡ before.spawner) × (after.files ≡ before.files) × (after.bench ≡ before.bench)

-- words that are refused leave all as it was
abbrev pub LeavesAlone : {L H P F O B : Type 0} → Result ToolCommand UsageKind → Objects L H P F O B → Objects L H P F O B → Type 0
LeavesAlone (Ok command) before after = CommandLeavesAlone command before after
LeavesAlone (Err why) before after = after ≡ before

-- ---- faults of the link ----

-- on its route to a modem, or of a pump's
abbrev pub CommandFailsOnLink : {L : Type 0} → ToolCommand → (L → ℕ) → (L → ℕ) → L → L → Type 0
CommandFailsOnLink (Qmicli task) = LinkFails (route_to task.device task.link)
CommandFailsOnLink (Mbimcli task) = LinkFails (route_to task.device task.link)
CommandFailsOnLink (Request task) = LinkFails (route_to task.device task.link)
CommandFailsOnLink (Pump read node bridge verbose) = λ faults open_faults before after. Rose (open_faults before) (open_faults after) ⊎ Rose (faults before) (faults after)
CommandFailsOnLink _ = λ faults open_faults before after. ⊥

abbrev pub FailsOnLink : {L : Type 0} → Result ToolCommand UsageKind → (L → ℕ) → (L → ℕ) → L → L → Type 0
FailsOnLink (Ok command) = CommandFailsOnLink command
FailsOnLink (Err why) = λ faults open_faults before after. ⊥
