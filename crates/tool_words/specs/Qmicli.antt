-- The words of qmicli.
use Rattle.std.specs.Prelude.{ℕ, List, [], ◌∷◌, Option, Some, None, Bool, true, false, not, Result, option_map, chars, codes, if◌then◌else◌, option_and_then, unwrap_or}
use Rattle.clap.specs.Simple.{App}
use Rattle.clap.specs.Walk.{Row}
use Rattle.kit_bytes.specs.declared.Kind.{Kind}
use Rattle.kit_bytes.specs.declared.Kind.TheVariants.{Mbim, Qmi}
use Rattle.sms_pdu.specs.Parts.{can_be_sent}
use Rattle.tool_words.specs.Form.{form_of}
use Rattle.tool_words.specs.Given.{is_given, value_given}
use Rattle.tool_words.specs.Link.{device_in, link_in}
use Rattle.tool_words.specs.ModemTools.{modem_tool, modem_tool_asked}
use Rattle.tool_words.specs.QmiCommands.{makes_messages, names_a_message, qmi_asks, qmi_commands, qmi_line, qmi_spelling, reads_messages, takes_tables}
use Rattle.tool_words.specs.Spelling.{Spelling, flag, valued}
use Rattle.tool_words.specs.Values.{◌>>=◌, flag_of, number_8_in, number_within, optional, path_in, short_in, split_at, turns_in}
use Rattle.tool_words.specs.declared.command.ToolCommand.{ToolCommand}
use Rattle.tool_words.specs.declared.command.ToolCommand.TheVariants.{Describe, PduSubmit, Qmicli, Request}
use Rattle.tool_words.specs.declared.fault.UsageKind.{UsageKind}
use Rattle.tool_words.specs.declared.form.AnswerForm.{AnswerForm}
use Rattle.tool_words.specs.declared.link.LinkSettings.{LinkSettings}
use Rattle.tool_words.specs.declared.qmi_commands.QmiCommand.{QmiCommand}
use Rattle.tool_words.specs.declared.qmicli.QmiSetting.{QmiSetting}
use Rattle.tool_words.specs.declared.qmicli.QmiSetting.TheVariants as setting

-- ---- its options ----

-- --device-open-mbim, --client-cid N, --client-no-release-cid, --decode-sms, --json, --reference N, --request NAME, --input JSON, --follow and --turns N, beside those of the link
abbrev pub qmi_setting_spelling : QmiSetting → Spelling
qmi_setting_spelling setting.DeviceOpenMbim = flag (codes "device-open-mbim")
qmi_setting_spelling setting.ClientCid = valued (codes "client-cid")
qmi_setting_spelling setting.ClientNoReleaseCid = flag (codes "client-no-release-cid")
qmi_setting_spelling setting.DecodeSms = flag (codes "decode-sms")
qmi_setting_spelling setting.Json = flag (codes "json")
qmi_setting_spelling setting.Reference = valued (codes "reference")
qmi_setting_spelling setting.Request = valued (codes "request")
qmi_setting_spelling setting.Input = valued (codes "input")
qmi_setting_spelling setting.Follow = flag (codes "follow")
qmi_setting_spelling setting.Turns = valued (codes "turns")

unfoldable pub qmi_settings : List QmiSetting
qmi_settings =
    setting.DeviceOpenMbim ∷ setting.ClientCid ∷ setting.ClientNoReleaseCid ∷ setting.DecodeSms ∷ setting.Json ∷ setting.Reference
    ∷ setting.Request ∷ setting.Input ∷ setting.Follow ∷ setting.Turns ∷ []

unfoldable pub qmicli_app : App
qmicli_app = modem_tool (codes "qmicli") qmi_setting_spelling qmi_settings qmi_spelling qmi_commands

-- ---- what the words ask for ----

-- the tables of a file are printed, or what the message of a name takes and gives, where one is named
unfoldable pub described : (file name : Option (List ℕ)) → Option ToolCommand
described file name = do
  named ← file
  path ← path_in named
  message ← optional short_in name
  Some (Describe path message)

-- for how many turns is followed, which only a command says that follows
unfoldable pub follow_in : (follows : Bool) → Option (List ℕ) → Option (Option ℕ)
follow_in true text = option_map Some (turns_in text)
follow_in false (Some text) = None
follow_in false None = Some None

-- the message of a name is sent by a file's tables; it has no values where none are given
unfoldable pub requested : LinkSettings → Option ℕ → (file : Option (List ℕ)) → List Row → Option ToolCommand
requested link cid file rows = do
  named ← device_in rows
  device ← named
  given ← file
  tables ← path_in given
  called ← value_given qmi_setting_spelling rows setting.Request
  message ← short_in called
  follow ← follow_in (is_given qmi_setting_spelling rows setting.Follow) (value_given qmi_setting_spelling rows setting.Turns)
  Some (Request (record {
    device = device;
    link = link;
    cid = cid;
    keep = is_given qmi_setting_spelling rows setting.ClientNoReleaseCid;
    tables = tables;
    message = message;
    input = chars (unwrap_or (value_given qmi_setting_spelling rows setting.Input) (codes "{}"));
    json = is_given qmi_setting_spelling rows setting.Json;
    follow = follow;
  }))

-- the messages are made that carry a text to a number, if any are
abbrev pub sent_to : (reference : ℕ) (number text : List ℕ) → Option ToolCommand
sent_to reference number text = if can_be_sent number text then Some (PduSubmit number text reference) else None

-- the number stands before the first comma, and the text behind it
unfoldable pub submitted : (reference : ℕ) → Option (List ℕ) → Option ToolCommand
submitted reference value = option_and_then (λ pair. sent_to reference (chars pair.0) (chars pair.1)) (option_and_then (split_at 44) value)

-- the reference of the messages, which only they have
unfoldable pub reference_in : (makes : Bool) → Option (List ℕ) → Option ℕ
reference_in makes (Some text) = if makes then number_8_in text else None
reference_in makes None = Some 0

-- the request of a command is sent to the device, which must be named
unfoldable pub qmi_asked : LinkSettings → Option ℕ → AnswerForm → QmiCommand → List Row → Option ToolCommand
qmi_asked link cid form command rows = do
  named ← device_in rows
  device ← named
  request ← (qmi_line command).request (value_given qmi_spelling rows command)
  Some (Qmicli (record { device = device; link = link; cid = cid; keep = is_given qmi_setting_spelling rows setting.ClientNoReleaseCid; request = request; form = form }))

-- what a command asks for: a request by tables, another one, the messages of a text, or the tables of a file
unfoldable pub asked_for : LinkSettings → Option ℕ → AnswerForm → ℕ → QmiCommand → List Row → Option ToolCommand
asked_for link cid form reference command rows =
    if takes_tables command then requested link cid (value_given qmi_spelling rows command) rows
    else if qmi_asks command then qmi_asked link cid form command rows
    else if makes_messages command then submitted reference (value_given qmi_spelling rows command)
    else described (value_given qmi_spelling rows command) (value_given qmi_setting_spelling rows setting.Request)

-- how the answer is printed, by settings that only some commands have
unfoldable pub form_given : QmiCommand → List Row → Option AnswerForm
form_given command rows = do
  decode ← flag_of (is_given qmi_setting_spelling rows setting.DecodeSms) (reads_messages command)
  json ← flag_of (is_given qmi_setting_spelling rows setting.Json) (qmi_asks command)
  form_of decode json

-- a message is named, has values and is followed beside a command that takes them; a request by tables isn't carried inside an MBIM modem
unfoldable pub fits_tables : QmiCommand → List Row → Option Bool
fits_tables command rows = do
  named ← flag_of (is_given qmi_setting_spelling rows setting.Request) (names_a_message command)
  given ← flag_of (is_given qmi_setting_spelling rows setting.Input) (takes_tables command)
  follows ← flag_of (is_given qmi_setting_spelling rows setting.Follow) (takes_tables command)
  turns ← flag_of (is_given qmi_setting_spelling rows setting.Turns) (takes_tables command)
  flag_of (is_given qmi_setting_spelling rows setting.DeviceOpenMbim) (not (takes_tables command))

-- the same, with the settings that only some commands have
unfoldable pub asked_with : LinkSettings → Option ℕ → QmiCommand → List Row → Option ToolCommand
asked_with link cid command rows = do
  form ← form_given command rows
  fits ← fits_tables command rows
  reference ← reference_in (makes_messages command) (value_given qmi_setting_spelling rows setting.Reference)
  asked_for link cid form reference command rows

-- the kind of the modem, which is MBIM where that is to carry the messages
unfoldable pub modem_kind : List Row → Kind
modem_kind rows = if is_given qmi_setting_spelling rows setting.DeviceOpenMbim then Mbim else Qmi

-- the command with its value and the settings, if each of them reads
unfoldable pub qmicli_values : QmiCommand → List Row → Option ToolCommand
qmicli_values command rows = do
  link ← link_in (modem_kind rows) rows
  cid ← optional (number_within 1 254) (value_given qmi_setting_spelling rows setting.ClientCid)
  asked_with link cid command rows

unfoldable pub qmicli_asked : List Row → Result ToolCommand UsageKind
qmicli_asked rows = modem_tool_asked qmi_spelling qmi_commands qmi_asks qmicli_values rows
