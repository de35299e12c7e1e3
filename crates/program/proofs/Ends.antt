-- What a status tells of.
use Rattle.std.proofs.Common.{◌≡◌, ℕ, zero, suc, pos, negsuc, ◌≤◌, Result, Ok, Err, is_ok, refl, arith}
use Rattle.kit_io.specs.Causes.{Rose, HasCause}
use Rattle.dissect.specs.Tables.{IsReadFault}
use Rattle.dissect.specs.declared.capture_end.CaptureEnd.{CaptureEnd}
use Rattle.dissect.specs.declared.capture_end.CaptureEnd.TheVariants as capture
use Rattle.stream_lines.specs.declared.end.DissectEnd.TheVariants as shown
use Rattle.tool_runs.specs.declared.run_end.RunEnd.{RunEnd}
use Rattle.tool_runs.specs.declared.run_end.RunEnd.TheVariants as run
use Rattle.program.specs.declared.status.Status.TheVariants as status
use Rattle.sim_supervision.specs.declared.supervision.SupervisionEnd.{SupervisionEnd}
use Rattle.sim_supervision.specs.declared.supervision.SupervisionEnd.TheVariants as keep
use Rattle.hub_io.specs.declared.settings.ServeEnd.TheVariants as end
use Rattle.sim_runs.specs.declared.sim_end.SimEnd.{SimEnd}
use Rattle.sim_runs.specs.declared.sim_end.SimEnd.TheVariants as sim
use Rattle.program.specs.Status.{IsOfCapture, IsOfKeeping, IsOfSimulator, status_of, status_of_capture, status_of_child, status_of_keeping, status_of_sim, with_stops}
use Rattle.program.specs.declared.status.Status.{Status}

-- only a command whose link failed ends so
pub link_fault_is : (ends : RunEnd) → status_of ends ≡ status.LinkFault → ends ≡ run.LinkFault
link_fault_is run.Done e = absurd (cc)
link_fault_is (run.Denied function code) e = absurd (cc)
link_fault_is run.LinkFault e = refl
link_fault_is run.LinkEnd e = absurd (cc)
link_fault_is run.TimedOut e = absurd (cc)
link_fault_is (run.Broken place) e = absurd (cc)
link_fault_is run.Flooded e = absurd (cc)
link_fault_is (run.TableFault fault) e = absurd (cc)
link_fault_is (run.MessageFault fault) e = absurd (cc)
link_fault_is run.ReadFault e = absurd (cc)
link_fault_is run.WriteFault e = absurd (cc)
link_fault_is run.StartFault e = absurd (cc)
link_fault_is run.NoProxy e = absurd (cc)
link_fault_is run.OutOfMemory e = absurd (cc)

-- only a command that couldn't start or stop a child ends so
pub start_fault_is : (ends : RunEnd) → status_of ends ≡ status.StartFault → ends ≡ run.StartFault
start_fault_is run.Done e = absurd (cc)
start_fault_is (run.Denied function code) e = absurd (cc)
start_fault_is run.LinkFault e = absurd (cc)
start_fault_is run.LinkEnd e = absurd (cc)
start_fault_is run.TimedOut e = absurd (cc)
start_fault_is (run.Broken place) e = absurd (cc)
start_fault_is run.Flooded e = absurd (cc)
start_fault_is (run.TableFault fault) e = absurd (cc)
start_fault_is (run.MessageFault fault) e = absurd (cc)
start_fault_is run.ReadFault e = absurd (cc)
start_fault_is run.WriteFault e = absurd (cc)
start_fault_is run.StartFault e = refl
start_fault_is run.NoProxy e = absurd (cc)
start_fault_is run.OutOfMemory e = absurd (cc)

-- only a command that couldn't read its file ends so
pub read_fault_is : (ends : RunEnd) → status_of ends ≡ status.ReadFault → ends ≡ run.ReadFault
read_fault_is run.Done e = absurd (cc)
read_fault_is (run.Denied function code) e = absurd (cc)
read_fault_is run.LinkFault e = absurd (cc)
read_fault_is run.LinkEnd e = absurd (cc)
read_fault_is run.TimedOut e = absurd (cc)
read_fault_is (run.Broken place) e = absurd (cc)
read_fault_is run.Flooded e = absurd (cc)
read_fault_is (run.TableFault fault) e = absurd (cc)
read_fault_is (run.MessageFault fault) e = absurd (cc)
read_fault_is run.ReadFault e = refl
read_fault_is run.WriteFault e = absurd (cc)
read_fault_is run.StartFault e = absurd (cc)
read_fault_is run.NoProxy e = absurd (cc)
read_fault_is run.OutOfMemory e = absurd (cc)

-- a start fault comes of a start that failed, or of a stop
pub start_fault_comes : {T E : Type 0} {old mid new : ℕ} (result : Result T E) (ends : Status) → old ≤ mid → (ends ≡ status.StartFault → Rose old mid) → HasCause mid new result
    → with_stops (is_ok result) ends ≡ status.StartFault → Rose old new
start_fault_comes (Ok t) ends later started stops is = let rose = started is in omega (arith, rose, stops.later)
start_fault_comes (Err e) ends later started stops is = omega (arith, later, stops.failed)

-- a run ends so whose simulated modem was kept running
pub is_of_keeping : (ends : SupervisionEnd) → IsOfKeeping (status_of_keeping ends)
unfolding status_of_child
is_of_keeping (keep.Ended (pos zero)) = tt
is_of_keeping (keep.Ended (pos (suc code))) = tt
is_of_keeping (keep.Ended (negsuc code)) = tt
is_of_keeping keep.StartFault = tt
is_of_keeping keep.OutOfMemory = tt

-- only one whose children couldn't be started or waited for ends with a start fault
pub keeping_fault_is : (ends : SupervisionEnd) → status_of_keeping ends ≡ status.StartFault → ends ≡ keep.StartFault
unfolding status_of_child
keeping_fault_is (keep.Ended (pos zero)) e = absurd (cc)
keeping_fault_is (keep.Ended (pos (suc code))) e = absurd (cc)
keeping_fault_is (keep.Ended (negsuc code)) e = absurd (cc)
keeping_fault_is keep.StartFault e = refl
keeping_fault_is keep.OutOfMemory e = absurd (cc)

-- a run ends so that simulated a modem, which isn't lost
pub is_of_simulator : (ends : SimEnd) → (ends ≡ sim.Served end.Lost → ⊥) → IsOfSimulator (status_of_sim ends)
is_of_simulator (sim.Served end.Stopped) never = tt
is_of_simulator (sim.Served end.Empty) never = tt
is_of_simulator (sim.Served end.Lost) never = absurd (never refl)
is_of_simulator (sim.Served end.HubFault) never = tt
is_of_simulator (sim.Served end.TurnsSpent) never = tt
is_of_simulator (sim.Served end.OutOfMemory) never = tt
is_of_simulator sim.HubFault never = tt
is_of_simulator sim.ReadFault never = tt
is_of_simulator (sim.ProfileFault fault) never = tt
is_of_simulator (sim.RulesFault fault) never = tt
is_of_simulator sim.OutOfMemory never = tt

-- a run ends so that shows a captured stream
pub is_of_capture : (ends : CaptureEnd) → IsOfCapture (status_of_capture ends)
is_of_capture (capture.Shown shown.Done) = tt
is_of_capture (capture.Shown (shown.Broken place)) = tt
is_of_capture (capture.Shown shown.ReadFault) = tt
is_of_capture (capture.Shown shown.WriteFault) = tt
is_of_capture (capture.Shown shown.TurnsSpent) = tt
is_of_capture (capture.Shown shown.OutOfMemory) = tt
is_of_capture capture.ReadFault = tt
is_of_capture (capture.TableFault fault) = tt
is_of_capture capture.OutOfMemory = tt

-- only one that couldn't read its tables or its capture ends with a read fault
pub capture_read_fault_is : (ends : CaptureEnd) → status_of_capture ends ≡ status.ReadFault → IsReadFault ends
capture_read_fault_is (capture.Shown shown.Done) e = absurd (cc)
capture_read_fault_is (capture.Shown (shown.Broken place)) e = absurd (cc)
capture_read_fault_is (capture.Shown shown.ReadFault) e = tt
capture_read_fault_is (capture.Shown shown.WriteFault) e = absurd (cc)
capture_read_fault_is (capture.Shown shown.TurnsSpent) e = absurd (cc)
capture_read_fault_is (capture.Shown shown.OutOfMemory) e = absurd (cc)
capture_read_fault_is capture.ReadFault e = tt
capture_read_fault_is (capture.TableFault fault) e = absurd (cc)
capture_read_fault_is capture.OutOfMemory e = absurd (cc)

-- only one that couldn't write its lines ends with a write fault
pub capture_write_fault_is : (ends : CaptureEnd) → status_of_capture ends ≡ status.WriteFault → ends ≡ capture.Shown shown.WriteFault
capture_write_fault_is (capture.Shown shown.Done) e = absurd (cc)
capture_write_fault_is (capture.Shown (shown.Broken place)) e = absurd (cc)
capture_write_fault_is (capture.Shown shown.ReadFault) e = absurd (cc)
capture_write_fault_is (capture.Shown shown.WriteFault) e = refl
capture_write_fault_is (capture.Shown shown.TurnsSpent) e = absurd (cc)
capture_write_fault_is (capture.Shown shown.OutOfMemory) e = absurd (cc)
capture_write_fault_is capture.ReadFault e = absurd (cc)
capture_write_fault_is (capture.TableFault fault) e = absurd (cc)
capture_write_fault_is capture.OutOfMemory e = absurd (cc)
