-- The words of a simulated modem.
use Rattle.std.specs.Prelude.{ℕ, List, [], ◌∷◌, Option, Some, Result, codes}
use Rattle.clap.specs.Simple.{App}
use Rattle.clap.specs.Walk.{Row}
use Rattle.kit_bytes.specs.declared.Kind.TheVariants.{Qmi}
use Rattle.tool_words.specs.Answers.{or_value}
use Rattle.tool_words.specs.Defaults.{simulator_socket}
use Rattle.tool_words.specs.Given.{value_given}
use Rattle.tool_words.specs.Reading.{with_options, without_options}
use Rattle.tool_words.specs.Spelling.{Spelling, valued}
use Rattle.tool_words.specs.Values.{◌>>=◌, kind_or, number_within, optional, path_in, path_or, turns_in}
use Rattle.tool_words.specs.declared.command.ToolCommand.{ToolCommand}
use Rattle.tool_words.specs.declared.command.ToolCommand.TheVariants.{Simulator}
use Rattle.tool_words.specs.declared.fault.UsageKind.{UsageKind}
use Rattle.tool_words.specs.declared.simulator.SimulatorOption.{SimulatorOption}
use Rattle.tool_words.specs.declared.simulator.SimulatorOption.TheVariants as option

-- ---- the options ----

-- --kind qmi or --kind mbim, --socket PATH, --profile FILE, --rules FILE, --turns N, --keep N
abbrev pub simulator_spelling : SimulatorOption → Spelling
simulator_spelling option.Kind = valued (codes "kind")
simulator_spelling option.Socket = valued (codes "socket")
simulator_spelling option.Profile = valued (codes "profile")
simulator_spelling option.Rules = valued (codes "rules")
simulator_spelling option.Turns = valued (codes "turns")
simulator_spelling option.Keep = valued (codes "keep")

unfoldable pub simulator_options : List SimulatorOption
simulator_options = option.Kind ∷ option.Socket ∷ option.Profile ∷ option.Rules ∷ option.Turns ∷ option.Keep ∷ []

unfoldable pub simulator_app : App
simulator_app = with_options simulator_spelling (without_options (codes "modem-sim")) simulator_options

-- ---- their values ----

-- how often a modem may be started, each time by a program of its own
abbrev pub starts_in : List ℕ → Option ℕ
starts_in = number_within 1 100

-- the simulated modem that these values describe, if each of them reads
unfoldable pub simulator_values : List Row → Option ToolCommand
simulator_values rows = do
  kind ← kind_or Qmi (value_given simulator_spelling rows option.Kind)
  turns ← turns_in (value_given simulator_spelling rows option.Turns)
  keep ← optional starts_in (value_given simulator_spelling rows option.Keep)
  socket ← path_or simulator_socket (value_given simulator_spelling rows option.Socket)
  profile ← optional path_in (value_given simulator_spelling rows option.Profile)
  rules ← optional path_in (value_given simulator_spelling rows option.Rules)
  Some (Simulator kind socket profile rules turns keep)

-- ---- what the words ask for ----

-- each value must read
unfoldable pub simulator_asked : List Row → Result ToolCommand UsageKind
simulator_asked rows = or_value (simulator_values rows)
