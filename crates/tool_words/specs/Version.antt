-- The words that ask for the program's version.
use Rattle.std.specs.Prelude.{List, [], ◌∷◌, Result, Ok, Err}
use Rattle.clap.specs.Walk.{Text}
use Rattle.tool_words.specs.declared.command.ToolCommand.{ToolCommand}
use Rattle.tool_words.specs.declared.command.ToolCommand.TheVariants.{Version}
use Rattle.tool_words.specs.declared.fault.UsageKind.{UsageKind}
use Rattle.tool_words.specs.declared.fault.UsageKind.TheVariants as usage

-- version, and no word more
unfoldable pub version_asked : List Text → Result ToolCommand UsageKind
version_asked (name ∷ []) = Ok Version
version_asked _ = Err usage.Words
