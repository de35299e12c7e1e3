-- The words of mbimcli.
use Rattle.std.specs.Prelude.{Bool, true, not, List, [], ◌∷◌, Option, Some, Result, codes}
use Rattle.clap.specs.Simple.{App}
use Rattle.clap.specs.Walk.{Row}
use Rattle.kit_bytes.specs.declared.Kind.TheVariants.{Mbim}
use Rattle.tool_words.specs.Form.{form_of}
use Rattle.tool_words.specs.Given.{is_given, value_given}
use Rattle.tool_words.specs.Link.{device_in, link_in}
use Rattle.tool_words.specs.MbimCommands.{mbim_commands, mbim_line, mbim_spelling, reads_messages}
use Rattle.tool_words.specs.ModemTools.{modem_tool, modem_tool_asked}
use Rattle.tool_words.specs.Spelling.{Spelling, flag}
use Rattle.tool_words.specs.Values.{◌>>=◌, flag_of}
use Rattle.tool_words.specs.declared.command.ToolCommand.{ToolCommand}
use Rattle.tool_words.specs.declared.command.ToolCommand.TheVariants.{Mbimcli}
use Rattle.tool_words.specs.declared.fault.UsageKind.{UsageKind}
use Rattle.tool_words.specs.declared.mbim_commands.MbimCommand.{MbimCommand}
use Rattle.tool_words.specs.declared.mbimcli.MbimSetting.{MbimSetting}
use Rattle.tool_words.specs.declared.mbimcli.MbimSetting.TheVariants as setting

-- ---- its options ----

-- --no-close, --decode-sms and --json, beside those of the link
abbrev pub mbim_setting_spelling : MbimSetting → Spelling
mbim_setting_spelling setting.NoClose = flag (codes "no-close")
mbim_setting_spelling setting.DecodeSms = flag (codes "decode-sms")
mbim_setting_spelling setting.Json = flag (codes "json")

unfoldable pub mbim_settings : List MbimSetting
mbim_settings = setting.NoClose ∷ setting.DecodeSms ∷ setting.Json ∷ []

unfoldable pub mbimcli_app : App
mbimcli_app = modem_tool (codes "mbimcli") mbim_setting_spelling mbim_settings mbim_spelling mbim_commands

-- ---- what the words ask for ----

-- each command asks a modem
abbrev pub mbim_asks : MbimCommand → Bool
mbim_asks command = true

-- the request of a command is sent to the device, which must be named and is closed afterwards, unless it is to stay open, if the settings read
unfoldable pub mbimcli_values : MbimCommand → List Row → Option ToolCommand
mbimcli_values command rows = do
  link ← link_in Mbim rows
  named ← device_in rows
  device ← named
  decode ← flag_of (is_given mbim_setting_spelling rows setting.DecodeSms) (reads_messages command)
  form ← form_of decode (is_given mbim_setting_spelling rows setting.Json)
  request ← (mbim_line command).request (value_given mbim_spelling rows command)
  Some (Mbimcli (record { device = device; link = link; close = not (is_given mbim_setting_spelling rows setting.NoClose); request = request; form = form }))

unfoldable pub mbimcli_asked : List Row → Result ToolCommand UsageKind
mbimcli_asked rows = modem_tool_asked mbim_spelling mbim_commands mbim_asks mbimcli_values rows
