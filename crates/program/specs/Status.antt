-- How a run of the program ends: its exit status, and the line that tells of it.
use Rattle.std.specs.Prelude.{◌≡◌, ℕ, zero, suc, ℤ, pos, negsuc, Bool, true, false, List, [], ◌++◌, Option, Some, None, codes, decimal, if◌then◌else◌}
use Rattle.dissect.specs.declared.capture_end.CaptureEnd.{CaptureEnd}
use Rattle.dissect.specs.declared.capture_end.CaptureEnd.TheVariants as capture
use Rattle.stream_lines.specs.declared.end.DissectEnd.{DissectEnd}
use Rattle.stream_lines.specs.declared.end.DissectEnd.TheVariants as shown
use Rattle.hub_io.specs.declared.settings.ServeEnd.{ServeEnd}
use Rattle.hub_io.specs.declared.settings.ServeEnd.TheVariants as end
use Rattle.message_tables.specs.declared.fault.TableFault.{TableFault}
use Rattle.message_tables.specs.declared.fault.TableFault.TheVariants as table
use Rattle.message_tables.specs.Members.{member_text}
use Rattle.named_messages.specs.declared.fault.NamedFault.{NamedFault}
use Rattle.named_messages.specs.declared.fault.NamedFault.TheVariants as named
use Rattle.table_requests.specs.declared.fault.InputFault.{InputFault}
use Rattle.table_requests.specs.declared.fault.InputFault.TheVariants as input
use Rattle.table_requests.specs.declared.fault.NoRequest.{NoRequest}
use Rattle.table_requests.specs.declared.fault.NoRequest.TheVariants as none
use Rattle.modem_profile.specs.Members as profile_members
use Rattle.modem_profile.specs.declared.fault.ProfileFault.{ProfileFault}
use Rattle.modem_profile.specs.declared.fault.ProfileFault.TheVariants as profile
use Rattle.modem_rules.specs.Lists.{list_text}
use Rattle.modem_rules.specs.declared.fault.RulesFault.{RulesFault}
use Rattle.modem_rules.specs.declared.fault.RulesFault.TheVariants as rules
use Rattle.pump.specs.declared.ending.PumpEnd.{PumpEnd}
use Rattle.pump.specs.declared.ending.PumpEnd.TheVariants as pump
use Rattle.sim_supervision.specs.declared.supervision.SupervisionEnd.{SupervisionEnd}
use Rattle.sim_supervision.specs.declared.supervision.SupervisionEnd.TheVariants as keep
use Rattle.sim_runs.specs.declared.sim_end.SimEnd.{SimEnd}
use Rattle.sim_runs.specs.declared.sim_end.SimEnd.TheVariants as sim
use Rattle.tool_runs.specs.declared.run_end.RunEnd.{RunEnd}
use Rattle.tool_runs.specs.declared.run_end.RunEnd.TheVariants as run
use Rattle.program.specs.declared.status.Status.{Status}
use Rattle.program.specs.declared.status.Status.TheVariants as status
use Rattle.tool_words.specs.declared.fault.UsageKind.{UsageKind}
use Rattle.tool_words.specs.declared.fault.UsageKind.TheVariants as kind

abbrev pub kind_word : UsageKind → List ℕ
kind_word kind.NoTool = codes "no tool"
kind_word kind.UnknownTool = codes "unknown tool"
kind_word kind.Words = codes "words"
kind_word kind.NoDevice = codes "no device"
kind_word kind.NoCommand = codes "no command"
kind_word kind.ManyCommands = codes "many commands"
kind_word kind.Value = codes "value"

-- a line that tells of an error
unfoldable pub error_line : List ℕ → List ℕ → List ℕ
error_line what which = codes "error: " ++ what ++ which ++ codes "\n"

-- the same of an object of a description, by its number
unfoldable pub object_line : List ℕ → List ℕ → List ℕ → List ℕ
object_line what which number = codes "error: " ++ what ++ which ++ codes " in " ++ number ++ codes "\n"

-- a modem's refusal, or one of its driver
abbrev pub denied_text : Bool → List ℕ
denied_text function = if function then codes "function error " else codes "denied "

-- why descriptions aren't read; objects are counted from 0, and a file without a fault of its own is too long
abbrev pub tables_line : Option TableFault → List ℕ
tables_line None = error_line (codes "tables: long") []
tables_line (Some table.Json) = error_line (codes "tables: json") []
tables_line (Some (table.Member at name)) = object_line (codes "tables: member ") (member_text name) (decimal at)
tables_line (Some (table.Format at)) = object_line (codes "tables: format") [] (decimal at)
tables_line (Some (table.Twice at)) = object_line (codes "tables: twice") [] (decimal at)
tables_line (Some (table.Deep at)) = object_line (codes "tables: deep") [] (decimal at)
tables_line (Some table.OutOfMemory) = error_line (codes "out of memory") []

-- why descriptions give no message of a name
abbrev pub message_line : NamedFault → List ℕ
message_line named.Json = error_line (codes "tables: json") []
message_line named.Missing = error_line (codes "tables: no such message") []
message_line named.Several = error_line (codes "tables: several such messages") []
message_line (named.Member name) = error_line (codes "tables: member ") (member_text name)
message_line named.Format = error_line (codes "tables: format") []
message_line named.Twice = error_line (codes "tables: twice") []
message_line named.Deep = error_line (codes "tables: deep") []
message_line named.OutOfMemory = error_line (codes "out of memory") []

-- why JSON gives no values to a request; a JSON Pointer leads to what is at fault
abbrev pub input_line : InputFault → List ℕ
input_line input.Json = error_line (codes "input: json") []
input_line (input.NoTlv pointer) = error_line (codes "input: no TLV at ") pointer
input_line (input.Value pointer) = error_line (codes "input: value at ") pointer
input_line input.Long = error_line (codes "input: long") []

-- why a profile isn't read; a file without a fault of its own is too long
abbrev pub profile_line : Option ProfileFault → List ℕ
profile_line None = error_line (codes "profile: long") []
profile_line (Some profile.Json) = error_line (codes "profile: json") []
profile_line (Some (profile.Member name)) = error_line (codes "profile: ") (profile_members.member_text name)
profile_line (Some profile.OutOfMemory) = error_line (codes "out of memory") []

-- why rules aren't read; the rules of a list are counted from 0, and a file without a fault of its own is too long
abbrev pub rules_line : Option RulesFault → List ℕ
rules_line None = error_line (codes "rules: long") []
rules_line (Some rules.Json) = error_line (codes "rules: json") []
rules_line (Some (rules.NoList list)) = error_line (codes "rules: ") (list_text list)
rules_line (Some (rules.NoRule list place)) = object_line (codes "rules: ") (list_text list) (decimal place)
rules_line (Some rules.OutOfMemory) = error_line (codes "out of memory") []

-- the line that tells how a run ended: none where all went well
abbrev pub line_of : Status → List ℕ
line_of status.Done = []
line_of (status.Denied function code) = error_line (denied_text function) (decimal code)
line_of (status.Usage why) = error_line (codes "usage: ") (kind_word why)
line_of status.LinkFault = error_line (codes "link fault") []
line_of status.LinkEnd = error_line (codes "link ended") []
line_of status.TimedOut = error_line (codes "timed out") []
line_of (status.Broken place) = error_line (codes "broken at ") (decimal place)
line_of status.Flooded = error_line (codes "flooded") []
line_of status.WriteFault = error_line (codes "write fault") []
line_of (status.TableFault fault) = tables_line fault
line_of (status.MessageFault fault) = message_line fault
line_of (status.InputFault fault) = input_line fault
line_of status.ReadFault = error_line (codes "read fault") []
line_of status.StartFault = error_line (codes "start fault") []
line_of status.NoProxy = error_line (codes "no proxy") []
line_of status.HubFault = error_line (codes "hub fault") []
line_of status.TurnsSpent = error_line (codes "turns spent") []
line_of (status.ProfileFault fault) = profile_line fault
line_of (status.RulesFault fault) = rules_line fault
line_of status.OutOfMemory = error_line (codes "out of memory") []

abbrev pub code_of : Status → ℕ
code_of status.Done = 0
code_of (status.Denied function code) = 1
code_of (status.Usage why) = 2
code_of status.LinkFault = 3
code_of status.LinkEnd = 4
code_of status.TimedOut = 5
code_of (status.Broken place) = 6
code_of status.Flooded = 7
code_of status.WriteFault = 8
code_of (status.TableFault fault) = 9
code_of (status.MessageFault fault) = 9
code_of status.ReadFault = 10
code_of status.StartFault = 11
code_of status.NoProxy = 12
code_of status.HubFault = 13
code_of status.TurnsSpent = 14
code_of (status.ProfileFault fault) = 15
code_of (status.RulesFault fault) = 16
code_of (status.InputFault fault) = 17
code_of status.OutOfMemory = 70

-- how a run ends whose command ended so
abbrev pub status_of : RunEnd → Status
status_of run.Done = status.Done
status_of (run.Denied function code) = status.Denied function code
status_of run.LinkFault = status.LinkFault
status_of run.LinkEnd = status.LinkEnd
status_of run.TimedOut = status.TimedOut
status_of (run.Broken place) = status.Broken place
status_of run.Flooded = status.Flooded
status_of (run.TableFault fault) = status.TableFault fault
status_of (run.MessageFault fault) = status.MessageFault fault
status_of run.ReadFault = status.ReadFault
status_of run.WriteFault = status.WriteFault
status_of run.StartFault = status.StartFault
status_of run.NoProxy = status.NoProxy
status_of run.OutOfMemory = status.OutOfMemory

-- how a run ends for want of a request
abbrev pub status_of_none : NoRequest → Status
status_of_none none.ReadFault = status.ReadFault
status_of_none none.Long = status.TableFault None
status_of_none (none.Message fault) = status.MessageFault fault
status_of_none (none.Input fault) = status.InputFault fault
status_of_none none.OutOfMemory = status.OutOfMemory

-- how a run ends whose serving ended so
abbrev pub status_of_end : ServeEnd → Status
status_of_end end.Stopped = status.Done
status_of_end end.Empty = status.Done
status_of_end end.Lost = status.LinkEnd
status_of_end end.HubFault = status.HubFault
status_of_end end.TurnsSpent = status.TurnsSpent
status_of_end end.OutOfMemory = status.OutOfMemory

-- how a run ends whose simulated modem ended so
abbrev pub status_of_sim : SimEnd → Status
status_of_sim (sim.Served why) = status_of_end why
status_of_sim sim.HubFault = status.HubFault
status_of_sim sim.ReadFault = status.ReadFault
status_of_sim (sim.ProfileFault fault) = status.ProfileFault fault
status_of_sim (sim.RulesFault fault) = status.RulesFault fault
status_of_sim sim.OutOfMemory = status.OutOfMemory

-- how a run ends whose last child ended with this status; one below 0 counts as 255
unfoldable pub status_of_child : ℤ → Status
status_of_child (pos zero) = status.Done
status_of_child (pos (suc code)) = status.Denied false (suc code)
status_of_child (negsuc code) = status.Denied false 255

-- how a run ends whose supervision of a simulated modem ended so
abbrev pub status_of_keeping : SupervisionEnd → Status
status_of_keeping (keep.Ended status) = status_of_child status
status_of_keeping keep.StartFault = status.StartFault
status_of_keeping keep.OutOfMemory = status.OutOfMemory

-- how a run ends whose pump ended so
abbrev pub status_of_pump : PumpEnd → Status
status_of_pump pump.Ended = status.Done
status_of_pump pump.LinkFault = status.LinkFault
status_of_pump pump.ReadFault = status.ReadFault
status_of_pump pump.WriteFault = status.WriteFault
status_of_pump pump.TurnsSpent = status.TurnsSpent

-- how a run ends whose showing of a captured stream ended so
abbrev pub status_of_dissect : DissectEnd → Status
status_of_dissect shown.Done = status.Done
status_of_dissect (shown.Broken place) = status.Broken place
status_of_dissect shown.ReadFault = status.ReadFault
status_of_dissect shown.WriteFault = status.WriteFault
status_of_dissect shown.TurnsSpent = status.TurnsSpent
status_of_dissect shown.OutOfMemory = status.OutOfMemory

-- how it ends with the tables that were looked for before
abbrev pub status_of_capture : CaptureEnd → Status
status_of_capture (capture.Shown end) = status_of_dissect end
status_of_capture capture.ReadFault = status.ReadFault
status_of_capture (capture.TableFault fault) = status.TableFault fault
status_of_capture capture.OutOfMemory = status.OutOfMemory

-- how it ends where each child was stopped, or one wasn't
abbrev pub with_stops : Bool → Status → Status
with_stops true ends = ends
with_stops false status.Done = status.StartFault
with_stops false ends = ends

-- an end is such, and the status tells of it
pub record EndsAs {E : Type 0} (status_for : E → Status) (result : Status) (Is : E → Type 0) : Type 0 where
  pub ends : E
  pub is : Is ends
  pub status : result ≡ status_for ends

-- how a run may end of a tool, of a proxy, of a simulated modem and of one that is kept running, of a pump, of a rig, and of what shows a captured stream
abbrev pub IsOfTool : Status → Type 0
IsOfTool status.HubFault = ⊥
IsOfTool status.TurnsSpent = ⊥
IsOfTool (status.ProfileFault fault) = ⊥
IsOfTool (status.RulesFault fault) = ⊥
IsOfTool _ = Unit {0}

abbrev pub IsOfProxy : Status → Type 0
IsOfProxy status.Done = Unit {0}
IsOfProxy status.LinkEnd = Unit {0}
IsOfProxy status.StartFault = Unit {0}
IsOfProxy status.HubFault = Unit {0}
IsOfProxy status.TurnsSpent = Unit {0}
IsOfProxy status.OutOfMemory = Unit {0}
IsOfProxy _ = ⊥

abbrev pub IsOfSimulator : Status → Type 0
IsOfSimulator status.Done = Unit {0}
IsOfSimulator status.HubFault = Unit {0}
IsOfSimulator status.TurnsSpent = Unit {0}
IsOfSimulator status.ReadFault = Unit {0}
IsOfSimulator (status.ProfileFault fault) = Unit {0}
IsOfSimulator (status.RulesFault fault) = Unit {0}
IsOfSimulator status.OutOfMemory = Unit {0}
IsOfSimulator _ = ⊥

abbrev pub IsOfKeeping : Status → Type 0
IsOfKeeping status.Done = Unit {0}
IsOfKeeping (status.Denied function code) = Unit {0}
IsOfKeeping status.StartFault = Unit {0}
IsOfKeeping status.OutOfMemory = Unit {0}
IsOfKeeping _ = ⊥

abbrev pub IsOfPump : Status → Type 0
IsOfPump status.Done = Unit {0}
IsOfPump status.LinkFault = Unit {0}
IsOfPump status.ReadFault = Unit {0}
IsOfPump status.WriteFault = Unit {0}
IsOfPump status.TurnsSpent = Unit {0}
IsOfPump status.OutOfMemory = Unit {0}
IsOfPump _ = ⊥

abbrev pub IsOfRig : Status → Type 0
IsOfRig status.Done = Unit {0}
IsOfRig status.WriteFault = Unit {0}
IsOfRig status.OutOfMemory = Unit {0}
IsOfRig _ = ⊥

abbrev pub IsOfCapture : Status → Type 0
IsOfCapture status.Done = Unit {0}
IsOfCapture (status.Broken place) = Unit {0}
IsOfCapture status.ReadFault = Unit {0}
IsOfCapture status.WriteFault = Unit {0}
IsOfCapture (status.TableFault fault) = Unit {0}
IsOfCapture status.TurnsSpent = Unit {0}
IsOfCapture status.OutOfMemory = Unit {0}
IsOfCapture _ = ⊥
