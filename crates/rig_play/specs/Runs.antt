-- What the rig runs on a bench. Lists of runs and of events have the newest first.
use Rattle.std.specs.Prelude.{◌⊎◌, List, Option, None}
use Rattle.kit_bytes.specs.declared.kind.Kind.{Kind}
use Rattle.proxy_history.specs.Events.{Event}
use Rattle.core_bench.specs.Runs.{Run}
use Rattle.rig_runs.specs.Rig.{device, time_limit}
use Rattle.rig_stage.specs.Running.{AreRecorded, IsCutShort}

-- a core of the rig's proxy of this kind met these events
abbrev pub run_of : Kind → List Event → Run
run_of kind events = record { kind = kind; limits = record { time = time_limit; release = None }; device = device; events = events }

-- behind the earlier runs there is none, or one that is cut short on the way to all these events
abbrev pub StopsEarly : (opened : Run) (earlier : List Run) (all : List Event) → Option (List Run) → Type 0
StopsEarly opened earlier all now = AreRecorded now earlier ⊎ IsCutShort opened earlier all now
