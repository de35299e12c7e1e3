-- What a rig has run where memory ran out. Lists of runs and of events have the newest first.
use Rattle.std.specs.Prelude.{◌≡◌, List, [], ◌∷◌, ◌++◌, Option}
use Rattle.core_bench.specs.Runs.{Run}
use Rattle.rig_stage.specs.Running.{AreRecorded, Extends}

-- of all these runs it is the next one behind those that are done, or that one cut short
pub record IsNext (all done : List Run) (run : Run) : Type 0 where
  pub whole : Run
  pub later : List Run
  pub order : all ≡ later ++ whole ∷ done
  pub within : Extends run.events whole.events
  pub same : run ≡ record whole { events = run.events }

-- of all these runs they are those that come first, but that the last of them may be cut short
abbrev pub AreFirst : (all runs : List Run) → Type 0
AreFirst all [] = Unit {0}
AreFirst all (run ∷ done) = IsNext all done run

-- behind the earlier runs the bench tells those
pub record TellsFirst (all earlier : List Run) (now : Option (List Run)) : Type 0 where
  pub added : List Run
  pub are_first : AreFirst all added
  pub told : AreRecorded now (added ++ earlier)

abbrev pub AddsFirst : Option (List Run) → (all : List Run) → Option (List Run) → Type 0
AddsFirst old all new = (earlier : List Run) → AreRecorded old earlier → TellsFirst all earlier new
