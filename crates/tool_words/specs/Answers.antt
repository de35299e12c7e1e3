-- What words ask for, or why they are refused.
use Rattle.std.specs.Prelude.{◌≡◌, List, Option, Some, None, Result, Ok, Err, if◌then◌else◌}
use Rattle.clap.specs.Simple.{App, matches_of}
use Rattle.clap.specs.Walk.{Row, Text}
use Rattle.tool_words.specs.Reading.{is_refused}
use Rattle.tool_words.specs.declared.command.ToolCommand.{ToolCommand}
use Rattle.tool_words.specs.declared.fault.UsageKind.{UsageKind}
use Rattle.tool_words.specs.declared.fault.UsageKind.TheVariants as kind
use Rattle.tool_words.specs.declared.fault.WordFault.{WordFault}
use Rattle.tool_words.specs.declared.fault.WordFault.TheVariants as fault

-- what the words of a tool ask for that has these options, where `asked` says what their rows ask for
abbrev pub read_by : App → (List Row → Result ToolCommand UsageKind) → List Text → Result ToolCommand UsageKind
read_by app asked words = if is_refused app words then Err kind.Words else asked (matches_of app words)

-- a command whose values all read
abbrev pub or_value : Option ToolCommand → Result ToolCommand UsageKind
or_value (Some command) = Ok command
or_value None = Err kind.Value

-- this is answered; want of memory is free
abbrev pub Answers : Result ToolCommand UsageKind → Result ToolCommand WordFault → Type 0
Answers expected (Ok command) = expected ≡ Ok command
Answers expected (Err (fault.Usage why)) = expected ≡ Err why
Answers expected (Err fault.OutOfMemory) = Unit {0}
