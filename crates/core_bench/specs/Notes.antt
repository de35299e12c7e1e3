-- The notes of a bench in memory, as runs. Lists of runs and of events have the newest first.
use Rattle.std.specs.Prelude.{ℕ, List, [], ◌∷◌, fold, Option, Some, None}
use Rattle.std.specs.Option.{option_map}
use Rattle.kit_io.specs.Record.{Noted}
use Rattle.proxy_history.specs.Events as history
use Rattle.core_bench.specs.Runs.{Run, with_event}
use Rattle.core_bench.specs.declared.memory.BenchNote.{BenchNote}
use Rattle.core_bench.specs.declared.memory.BenchNote.TheVariants.{Opened, Joined, Piece, Left, ModemPiece, ModemGone, ModemBack, Now, Took, ModemTook}

-- the event that a note stands for; an opening is none
abbrev pub event_as : BenchNote → List ℕ → Option history.Event
event_as (Opened kind limits) bytes = None
event_as (Joined conn) bytes = Some (history.Joined conn)
event_as (Piece conn) bytes = Some (history.Piece conn bytes)
event_as (Left conn) bytes = Some (history.Left conn)
event_as ModemPiece bytes = Some (history.ModemPiece bytes)
event_as ModemGone bytes = Some history.ModemGone
event_as ModemBack bytes = Some history.ModemBack
event_as (Now time) bytes = Some (history.Now time)
event_as (Took conn count) bytes = Some (history.Took conn count)
event_as (ModemTook count) bytes = Some (history.ModemTook count)

-- the run that a note begins
abbrev pub run_as : BenchNote → List ℕ → Option Run
run_as (Opened kind limits) bytes = Some (record { kind = kind; limits = limits; device = bytes; events = [] })
run_as _ bytes = None

abbrev pub runs_after : List Run → Option Run → Option history.Event → List Run
runs_after runs (Some run) event = run ∷ runs
runs_after runs None (Some event) = with_event event runs
runs_after runs None None = runs

abbrev pub with_note : List Run → Noted BenchNote → List Run
with_note runs note = runs_after runs (run_as note.kind note.bytes) (event_as note.kind note.bytes)

-- the runs that a log's notes stand for
abbrev pub runs_of : Option (List (Noted BenchNote)) → Option (List Run)
runs_of recorded = option_map (fold with_note []) recorded
