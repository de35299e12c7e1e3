-- What the words of a command line ask for.
use Rattle.std.specs.Prelude.{ℕ, List, [], ◌∷◌, Option, Some, None, Result, Err, codes, if◌then◌else◌}
use Rattle.std.specs.Str.{bytes_eq}
use Rattle.clap.specs.Simple.{App}
use Rattle.clap.specs.Walk.{Row, Text}
use Rattle.kit_bytes.specs.declared.Kind.TheVariants.{Qmi, Mbim}
use Rattle.tool_words.specs.Answers.{read_by}
use Rattle.tool_words.specs.Dissect.{dissect_app, dissect_asked}
use Rattle.tool_words.specs.Mbimcli.{mbimcli_app, mbimcli_asked}
use Rattle.tool_words.specs.Proxies.{proxies_app, proxies_asked}
use Rattle.tool_words.specs.Proxy.{proxy_app, proxy_asked, proxy_name}
use Rattle.tool_words.specs.Pump.{pump_asked}
use Rattle.tool_words.specs.Qmicli.{qmicli_app, qmicli_asked}
use Rattle.tool_words.specs.Rig.{rig_app, rig_asked}
use Rattle.tool_words.specs.Simulator.{simulator_app, simulator_asked}
use Rattle.tool_words.specs.Version.{version_asked}
use Rattle.tool_words.specs.declared.command.Tool.{Tool}
use Rattle.tool_words.specs.declared.command.Tool.TheVariants as tool
use Rattle.tool_words.specs.declared.command.ToolCommand.{ToolCommand}
use Rattle.tool_words.specs.declared.fault.UsageKind.{UsageKind}
use Rattle.tool_words.specs.declared.fault.UsageKind.TheVariants as usage

-- the tool of this name that has options
unfoldable pub tool_named : List ℕ → Option Tool
tool_named word =
    if bytes_eq word (codes "qmicli") then Some tool.Qmicli
    else if bytes_eq word (codes "mbimcli") then Some tool.Mbimcli
    else if bytes_eq word (proxy_name Qmi) then Some (tool.Proxy Qmi)
    else if bytes_eq word (proxy_name Mbim) then Some (tool.Proxy Mbim)
    else if bytes_eq word (codes "qmi-proxies") then Some tool.Proxies
    else if bytes_eq word (codes "modem-sim") then Some tool.Simulator
    else if bytes_eq word (codes "rig") then Some tool.Rig
    else if bytes_eq word (codes "dissect") then Some tool.Dissect
    else None

-- the options of a tool
abbrev pub tool_app : Tool → App
tool_app tool.Qmicli = qmicli_app
tool_app tool.Mbimcli = mbimcli_app
tool_app (tool.Proxy kind) = proxy_app kind
tool_app tool.Proxies = proxies_app
tool_app tool.Simulator = simulator_app
tool_app tool.Rig = rig_app
tool_app tool.Dissect = dissect_app

-- what its words ask for, by the options that they give
abbrev pub tool_asked : Tool → List Row → Result ToolCommand UsageKind
tool_asked tool.Qmicli rows = qmicli_asked rows
tool_asked tool.Mbimcli rows = mbimcli_asked rows
tool_asked (tool.Proxy kind) rows = proxy_asked kind rows
tool_asked tool.Proxies rows = proxies_asked rows
tool_asked tool.Simulator rows = simulator_asked rows
tool_asked tool.Rig rows = rig_asked rows
tool_asked tool.Dissect rows = dissect_asked rows

abbrev pub read_if_named : Option Tool → List Text → Result ToolCommand UsageKind
read_if_named (Some tool) words = read_by (tool_app tool) (tool_asked tool) words
read_if_named None words = Err usage.UnknownTool

-- what the words ask for, whose first names the tool, or the first reason that fits why they are refused
unfoldable pub command_in : List Text → Result ToolCommand UsageKind
command_in [] = Err usage.NoTool
command_in (word ∷ more) =
    if bytes_eq word (codes "pump") then pump_asked (word ∷ more)
    else if bytes_eq word (codes "version") then version_asked (word ∷ more)
    else read_if_named (tool_named word) (word ∷ more)
