-- The assemblies that stand behind messages.
use Rattle.std.specs.Prelude.{◌≡◌, ℕ, List}
use Rattle.mbim_frame.specs.declared.kind.MessageKind.TheVariants.{Command, CommandDone, IndicateStatus}
use Rattle.mbim_fragments.specs.Assembling.{assembled_of}
use Rattle.dissect.specs.declared.mbim.MbimLines.{MbimLines}
use Rattle.dissect.specs.Mbim.{run_behind}

-- each kind's assembly has what is left of its run
pub record StandsForRuns (state : MbimLines) (before : List (List ℕ)) : Type 0 where
  pub commands : state.commands ≡ assembled_of (run_behind Command before)
  pub answers : state.answers ≡ assembled_of (run_behind CommandDone before)
  pub indications : state.indications ≡ assembled_of (run_behind IndicateStatus before)
