-- The options that say how a tool reaches its modem, how long it waits for it, and whether it tells what goes over its link.
use Rattle.std.specs.Prelude.{ℕ, List, [], ◌∷◌, Option, Some, codes}
use Rattle.clap.specs.Walk.{Row}
use Rattle.kit_bytes.specs.declared.Kind.{Kind}
use Rattle.tool_words.specs.Defaults.{bridge_socket, proxy_socket}
use Rattle.tool_words.specs.Given.{is_given, value_given}
use Rattle.tool_words.specs.Spelling.{Spelling, flag, or_letter, valued}
use Rattle.tool_words.specs.Values.{◌>>=◌, number_or, optional, path_in, path_or}
use Rattle.tool_words.specs.declared.link.LinkOption.{LinkOption}
use Rattle.tool_words.specs.declared.link.LinkOption.TheVariants as option
use Rattle.tool_words.specs.declared.link.LinkSettings.{LinkSettings}

-- --device PATH, or -d PATH, --device-open-proxy, or -p, --socket PATH, --bridge PATH, --timeout SECONDS, --verbose, or -v
abbrev pub link_spelling : LinkOption → Spelling
link_spelling option.Device = or_letter 100 (valued (codes "device"))
link_spelling option.DeviceOpenProxy = or_letter 112 (flag (codes "device-open-proxy"))
link_spelling option.Socket = valued (codes "socket")
link_spelling option.Bridge = valued (codes "bridge")
link_spelling option.Timeout = valued (codes "timeout")
link_spelling option.Verbose = or_letter 118 (flag (codes "verbose"))

unfoldable pub link_options : List LinkOption
link_options = option.Device ∷ option.DeviceOpenProxy ∷ option.Socket ∷ option.Bridge ∷ option.Timeout ∷ option.Verbose ∷ []

-- for how many seconds an answer is waited for: 1 to 600, and 30 where there is no text
abbrev pub timeout_in : Option (List ℕ) → Option ℕ
timeout_in = number_or 30 1 600

-- the device that is named, if its path reads
unfoldable pub device_in : List Row → Option (Option (List ℕ))
device_in rows = optional path_in (value_given link_spelling rows option.Device)

-- the settings of a tool for modems of this kind, if each of them reads
unfoldable pub link_in : Kind → List Row → Option LinkSettings
link_in kind rows = do
  socket ← path_or (proxy_socket kind) (value_given link_spelling rows option.Socket)
  bridge ← path_or bridge_socket (value_given link_spelling rows option.Bridge)
  timeout ← timeout_in (value_given link_spelling rows option.Timeout)
  Some (record { kind = kind; proxied = is_given link_spelling rows option.DeviceOpenProxy; socket = socket; bridge = bridge; timeout = timeout; verbose = is_given link_spelling rows option.Verbose })
