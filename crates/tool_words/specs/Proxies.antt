-- The words of one proxy for several QMI modems.
use Rattle.std.specs.Prelude.{ℕ, List, [], ◌∷◌, Option, Some, None, Result, Err, codes}
use Rattle.clap.specs.Simple.{App}
use Rattle.clap.specs.Walk.{Row}
use Rattle.kit_bytes.specs.declared.Kind.TheVariants.{Qmi}
use Rattle.tool_words.specs.Answers.{or_value}
use Rattle.tool_words.specs.Given.{words_given}
use Rattle.tool_words.specs.Paths.{devices_in}
use Rattle.tool_words.specs.Proxy.{proxy_spelling, settings_in}
use Rattle.tool_words.specs.Reading.{with_options, with_words, without_options}
use Rattle.tool_words.specs.Values.{◌>>=◌}
use Rattle.tool_words.specs.declared.command.ToolCommand.{ToolCommand}
use Rattle.tool_words.specs.declared.command.ToolCommand.TheVariants.{Proxies}
use Rattle.tool_words.specs.declared.fault.UsageKind.{UsageKind}
use Rattle.tool_words.specs.declared.fault.UsageKind.TheVariants.{NoDevice}
use Rattle.tool_words.specs.declared.proxy.ProxyOption.{ProxyOption}
use Rattle.tool_words.specs.declared.proxy.ProxyOption.TheVariants as option

-- ---- the options ----

-- those of a proxy that aren't about its one device
unfoldable pub proxies_options : List ProxyOption
proxies_options = option.Socket ∷ option.Bridge ∷ option.NoExit ∷ option.EmptyTimeout ∷ option.Time ∷ option.ReleaseAfter ∷ option.Turns ∷ []

-- and words that are no options: the devices
unfoldable pub proxies_app : App
proxies_app = with_words (codes "devices") (with_options proxy_spelling (without_options (codes "qmi-proxies")) proxies_options)

-- ---- their values ----

-- the proxy that these values describe, if each of them reads
unfoldable pub proxies_values : List (List ℕ) → List Row → Option ToolCommand
proxies_values texts rows = do
  settings ← settings_in Qmi rows
  devices ← devices_in texts
  Some (Proxies (record {
    devices = devices;
    socket = settings.socket;
    bridge = settings.bridge;
    empty = settings.empty;
    time = settings.time;
    release = settings.release;
    turns = settings.turns;
  }))

-- ---- what the words ask for ----

abbrev pub proxies_if_given : Option (List (List ℕ)) → List Row → Result ToolCommand UsageKind
proxies_if_given (Some texts) rows = or_value (proxies_values texts rows)
proxies_if_given None rows = Err NoDevice

-- a device must be named, and then each value must read
unfoldable pub proxies_asked : List Row → Result ToolCommand UsageKind
proxies_asked rows = proxies_if_given (words_given (codes "devices") rows) rows
