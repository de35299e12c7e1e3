-- What the tools that ask a modem share: qmicli and mbimcli.
use Rattle.std.specs.Prelude.{ℕ, ◌&&◌, Bool, true, not, List, Option, Result, Ok, Err, if◌then◌else◌}
use Rattle.clap.specs.Simple.{App}
use Rattle.clap.specs.Walk.{Row}
use Rattle.tool_words.specs.Answers.{or_value}
use Rattle.tool_words.specs.Given.{is_given}
use Rattle.tool_words.specs.Link.{link_options, link_spelling}
use Rattle.tool_words.specs.Reading.{with_options, without_options}
use Rattle.tool_words.specs.Sole.{command_given}
use Rattle.tool_words.specs.Spelling.{Spelling}
use Rattle.tool_words.specs.declared.command.ToolCommand.{ToolCommand}
use Rattle.tool_words.specs.declared.fault.UsageKind.{UsageKind}
use Rattle.tool_words.specs.declared.fault.UsageKind.TheVariants as kind
use Rattle.tool_words.specs.declared.link.LinkOption.TheVariants.{Device}

-- the tool of this name, whose options say how the modem is reached and how it is asked, and whose commands say what for
abbrev pub modem_tool : {S C : Type 0} → List ℕ → (S → Spelling) → List S → (C → Spelling) → List C → App
modem_tool name setting_spelling settings command_spelling commands =
    with_options command_spelling (with_options setting_spelling (with_options link_spelling (without_options name) link_options) settings) commands

-- a device is needed, unless the one command that is given asks nothing of a modem
abbrev pub needs_device : {C : Type 0} → (C → Bool) → Result C UsageKind → Bool
needs_device asks (Ok command) = asks command
needs_device asks (Err why) = true

abbrev pub with_values : {C : Type 0} → (C → List Row → Option ToolCommand) → Result C UsageKind → List Row → Result ToolCommand UsageKind
with_values values (Ok command) rows = or_value (values command rows)
with_values values (Err why) rows = Err why

-- a device must be named, where one is needed; then one command must be given, and then each value must read
abbrev pub asked_by : {C : Type 0} → (C → Bool) → (C → List Row → Option ToolCommand) → Result C UsageKind → List Row → Result ToolCommand UsageKind
asked_by asks values command rows =
    if needs_device asks command && not (is_given link_spelling rows Device) then Err kind.NoDevice
    else with_values values command rows

-- the same, by the commands of a tool, of which some ask a modem
unfoldable pub modem_tool_asked : {C : Type 0} → (C → Spelling) → List C → (C → Bool) → (C → List Row → Option ToolCommand) → List Row → Result ToolCommand UsageKind
modem_tool_asked spelling commands asks values rows = asked_by asks values (command_given spelling rows commands) rows
