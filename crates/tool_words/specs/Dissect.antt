-- The words of what shows a captured stream.
use Rattle.std.specs.Prelude.{ℕ, List, [], ◌∷◌, Option, Some, None, Result, Err, codes}
use Rattle.clap.specs.Simple.{App}
use Rattle.clap.specs.Walk.{Row}
use Rattle.kit_bytes.specs.declared.Kind.TheVariants.{Qmi}
use Rattle.tool_words.specs.Answers.{or_value}
use Rattle.tool_words.specs.Given.{value_given, word_given}
use Rattle.tool_words.specs.Reading.{with_options, with_word, without_options}
use Rattle.tool_words.specs.Spelling.{Spelling, valued}
use Rattle.tool_words.specs.Values.{◌>>=◌, kind_or, optional, path_in, turns_in}
use Rattle.tool_words.specs.declared.command.ToolCommand.{ToolCommand}
use Rattle.tool_words.specs.declared.command.ToolCommand.TheVariants.{Dissect}
use Rattle.tool_words.specs.declared.dissect.DissectOption.{DissectOption}
use Rattle.tool_words.specs.declared.dissect.DissectOption.TheVariants as option
use Rattle.tool_words.specs.declared.fault.UsageKind.{UsageKind}
use Rattle.tool_words.specs.declared.fault.UsageKind.TheVariants.{NoCommand}

-- ---- the options ----

-- --kind qmi or --kind mbim, --tables FILE, --turns N
abbrev pub dissect_spelling : DissectOption → Spelling
dissect_spelling option.Kind = valued (codes "kind")
dissect_spelling option.Tables = valued (codes "tables")
dissect_spelling option.Turns = valued (codes "turns")

unfoldable pub dissect_options : List DissectOption
dissect_options = option.Kind ∷ option.Tables ∷ option.Turns ∷ []

-- and a word that is no option: the capture
unfoldable pub dissect_app : App
dissect_app = with_word (codes "capture") (with_options dissect_spelling (without_options (codes "dissect")) dissect_options)

-- ---- their values ----

-- what these values ask for of a capture, if each of them reads
unfoldable pub dissect_values : List ℕ → List Row → Option ToolCommand
dissect_values capture rows = do
  kind ← kind_or Qmi (value_given dissect_spelling rows option.Kind)
  turns ← turns_in (value_given dissect_spelling rows option.Turns)
  tables ← optional path_in (value_given dissect_spelling rows option.Tables)
  path ← path_in capture
  Some (Dissect kind tables turns path)

-- ---- what the words ask for ----

abbrev pub dissect_if_given : Option (List ℕ) → List Row → Result ToolCommand UsageKind
dissect_if_given (Some capture) rows = or_value (dissect_values capture rows)
dissect_if_given None rows = Err NoCommand

-- a capture must be named, and then each value must read
unfoldable pub dissect_asked : List Row → Result ToolCommand UsageKind
dissect_asked rows = dissect_if_given (word_given (codes "capture") rows) rows
