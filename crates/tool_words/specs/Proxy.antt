-- The words of a proxy, by the kind of its modem.
use Rattle.std.specs.Prelude.{ℕ, ◌*◌, ◌==◌, ◌||◌, Bool, List, [], ◌∷◌, Option, Some, None, Result, Err, codes, if◌then◌else◌, option_and_then, option_map}
use Rattle.clap.specs.Simple.{App}
use Rattle.clap.specs.Walk.{Row}
use Rattle.kit_bytes.specs.declared.Kind.{Kind}
use Rattle.kit_bytes.specs.declared.Kind.TheVariants.{Qmi, Mbim}
use Rattle.tool_words.specs.Answers.{or_value}
use Rattle.tool_words.specs.Defaults.{bridge_socket, proxy_socket}
use Rattle.tool_words.specs.Given.{is_given, value_given}
use Rattle.tool_words.specs.Reading.{with_options, without_options}
use Rattle.tool_words.specs.Spelling.{Spelling, flag, or_letter, valued}
use Rattle.tool_words.specs.Values.{◌>>=◌, number_or, number_within, optional, path_in, path_or, turns_in}
use Rattle.tool_words.specs.declared.command.ToolCommand.{ToolCommand}
use Rattle.tool_words.specs.declared.command.ToolCommand.TheVariants.{Proxy}
use Rattle.tool_words.specs.declared.fault.UsageKind.{UsageKind}
use Rattle.tool_words.specs.declared.fault.UsageKind.TheVariants as usage
use Rattle.tool_words.specs.declared.proxy.ProxyOption.{ProxyOption}
use Rattle.tool_words.specs.declared.proxy.ProxyOption.TheVariants as option
use Rattle.tool_words.specs.declared.proxy.ProxySettings.{ProxySettings}

-- ---- its name ----

abbrev pub proxy_name : Kind → List ℕ
proxy_name Qmi = codes "qmi-proxy"
proxy_name Mbim = codes "mbim-proxy"

-- ---- the options ----

-- --device PATH, or -d PATH, --socket PATH, --bridge PATH, --no-exit, --exit-when-lost, --empty-timeout SECONDS, --time MS, --release-after SECONDS, --turns N
abbrev pub proxy_spelling : ProxyOption → Spelling
proxy_spelling option.Device = or_letter 100 (valued (codes "device"))
proxy_spelling option.Socket = valued (codes "socket")
proxy_spelling option.Bridge = valued (codes "bridge")
proxy_spelling option.NoExit = flag (codes "no-exit")
proxy_spelling option.ExitWhenLost = flag (codes "exit-when-lost")
proxy_spelling option.EmptyTimeout = valued (codes "empty-timeout")
proxy_spelling option.Time = valued (codes "time")
proxy_spelling option.ReleaseAfter = valued (codes "release-after")
proxy_spelling option.Turns = valued (codes "turns")

unfoldable pub proxy_options : List ProxyOption
proxy_options = option.Device ∷ option.Socket ∷ option.Bridge ∷ option.NoExit ∷ option.ExitWhenLost ∷ option.EmptyTimeout ∷ option.Time ∷ option.Turns ∷ []

-- those of one kind alone
abbrev pub own_options : Kind → List ProxyOption
own_options Qmi = option.ReleaseAfter ∷ []
own_options Mbim = []

unfoldable pub proxy_app : Kind → App
proxy_app kind = with_options proxy_spelling (with_options proxy_spelling (without_options (proxy_name kind)) proxy_options) (own_options kind)

-- ---- their values ----

-- after how many milliseconds without a client the proxy ends: never, where it is to stay or the seconds are 0
abbrev pub empty_time : Bool → ℕ → Option ℕ
empty_time stays seconds = if stays || seconds == 0 then None else Some (seconds * 1000)

-- the milliseconds of 1 to 86,400 seconds
unfoldable pub release_in : List ℕ → Option ℕ
release_in text = option_map (λ seconds. seconds * 1000) (number_within 1 86400 text)

-- how a proxy serves, whatever it serves, if each of these values reads
unfoldable pub settings_in : Kind → List Row → Option ProxySettings
settings_in kind rows = do
  seconds ← number_or 30 0 86400 (value_given proxy_spelling rows option.EmptyTimeout)
  time ← number_or 30000 1 86400000 (value_given proxy_spelling rows option.Time)
  release ← optional release_in (value_given proxy_spelling rows option.ReleaseAfter)
  turns ← turns_in (value_given proxy_spelling rows option.Turns)
  socket ← path_or (proxy_socket kind) (value_given proxy_spelling rows option.Socket)
  bridge ← path_or bridge_socket (value_given proxy_spelling rows option.Bridge)
  Some (record {
    socket = socket;
    bridge = bridge;
    empty = empty_time (is_given proxy_spelling rows option.NoExit) seconds;
    time = time;
    release = release;
    turns = turns;
  })

-- the proxy that these values describe, if each of them reads
unfoldable pub proxy_values : Kind → List Row → Option ToolCommand
proxy_values kind rows = do
  settings ← settings_in kind rows
  device ← option_and_then path_in (value_given proxy_spelling rows option.Device)
  Some (Proxy (record {
    kind = kind;
    device = device;
    socket = settings.socket;
    bridge = settings.bridge;
    empty = settings.empty;
    exit_when_lost = is_given proxy_spelling rows option.ExitWhenLost;
    time = settings.time;
    release = settings.release;
    turns = settings.turns;
  }))

-- ---- what the words ask for ----

-- a device must be named, and then each value must read
unfoldable pub proxy_asked : Kind → List Row → Result ToolCommand UsageKind
proxy_asked kind rows = if is_given proxy_spelling rows option.Device then or_value (proxy_values kind rows) else Err usage.NoDevice
