-- A rig that words ask for is within its limits, messages are made of a text that they send, and a capture is read a bounded number of times; nothing else has any limits.
use Rattle.std.proofs.Common.{◌≡◌, ◌≤◌, ◌-◌, ◌^◌, ℕ, Bool, true, false, cond, List, [], ◌∷◌, Option, Some, None, Result, Ok, Err, refl, subst, chars, arith}
use Rattle.std.specs.Prelude.{IfOk, IfSome, codes, if◌then◌else◌, option_and_then}
use Rattle.std.specs.Str.{bytes_eq}
use Rattle.std.proofs.lemmas.Bool.{cond_both}
use Rattle.sms_pdu.specs.Parts.{can_be_sent}
use Rattle.clap.specs.Simple.{matches_of}
use Rattle.clap.specs.Walk.{Row, Text}
use Rattle.kit_bytes.specs.declared.Kind.{Kind}
use Rattle.kit_bytes.specs.declared.Kind.TheVariants as kind
use Rattle.tool_words.specs.Answers.{Answers, or_value}
use Rattle.tool_words.specs.Command.{command_in, read_if_named, tool_app, tool_asked, tool_named}
use Rattle.tool_words.specs.Dissect.{dissect_asked, dissect_if_given, dissect_spelling, dissect_values}
use Rattle.tool_words.specs.Form.{form_of}
use Rattle.tool_words.specs.Given.{is_given, value_given, word_given, words_given}
use Rattle.tool_words.specs.Link.{device_in, link_in}
use Rattle.tool_words.specs.MbimCommands.{mbim_line, mbim_spelling, reads_messages as mbim_reads}
use Rattle.tool_words.specs.Mbimcli.{mbim_asks, mbim_setting_spelling, mbimcli_asked, mbimcli_values}
use Rattle.tool_words.specs.ModemTools.{asked_by, modem_tool_asked}
use Rattle.tool_words.specs.Paths.{devices_in}
use Rattle.tool_words.specs.Proxies.{proxies_asked, proxies_if_given, proxies_values}
use Rattle.tool_words.specs.Proxy.{proxy_asked, proxy_spelling, proxy_values, settings_in}
use Rattle.tool_words.specs.Pump.{is_verbose, pump_asked, pump_if_named, pump_values, reads_named}
use Rattle.tool_words.specs.QmiCommands.{makes_messages, qmi_asks, qmi_line, qmi_spelling, takes_tables}
use Rattle.tool_words.specs.Qmicli.{asked_for, asked_with, described, fits_tables, follow_in, form_given, modem_kind, qmi_asked, qmi_setting_spelling, qmicli_asked, qmicli_values, reference_in, requested, sent_to, submitted}
use Rattle.tool_words.specs.Reading.{is_refused}
use Rattle.tool_words.specs.Rig.{IsWithinLimits, clients_in, messages_in, rig_asked, rig_spelling, rig_values, transparency_values}
use Rattle.tool_words.specs.Simulator.{simulator_asked, simulator_values}
use Rattle.tool_words.specs.Version.{version_asked}
use Rattle.tool_words.specs.Values.{flag_of, kind_or, number_or, number_within, optional, path_in, short_in, split_at, turns_in}
use Rattle.tool_words.specs.declared.command.Tool.{Tool}
use Rattle.tool_words.specs.declared.command.Tool.TheVariants as tool
use Rattle.tool_words.specs.declared.command.ToolCommand.{ToolCommand}
use Rattle.tool_words.specs.declared.command.ToolCommand.TheVariants.{PduSubmit}
use Rattle.tool_words.specs.declared.dissect.DissectOption.TheVariants as dissect_option
use Rattle.tool_words.specs.declared.fault.UsageKind.{UsageKind}
use Rattle.tool_words.specs.declared.fault.UsageKind.TheVariants as usage
use Rattle.tool_words.specs.declared.fault.WordFault.{WordFault}
use Rattle.tool_words.specs.declared.form.AnswerForm.{AnswerForm}
use Rattle.tool_words.specs.declared.link.LinkSettings.{LinkSettings}
use Rattle.tool_words.specs.declared.mbim_commands.MbimCommand.{MbimCommand}
use Rattle.tool_words.specs.declared.mbimcli.MbimSetting.TheVariants as mbim_setting
use Rattle.tool_words.specs.declared.proxy.ProxyOption.TheVariants as proxy
use Rattle.tool_words.specs.declared.qmi_commands.QmiCommand.{QmiCommand}
use Rattle.tool_words.specs.declared.qmicli.QmiSetting.TheVariants as setting
use Rattle.tool_words.specs.declared.rig.RigOption.TheVariants as option

-- ---- values one after another ----

-- a command that is within the limits, if there is one
abbrev Fits : Option ToolCommand → Type 0
Fits command = IfSome command IsWithinLimits

abbrev IsFitting : Result ToolCommand UsageKind → Type 0
IsFitting answer = IfOk answer IsWithinLimits

Fits-each : {A : Type 0} (next : A → Option ToolCommand) (value : Option A) → ((a : A) → value ≡ Some a → Fits (next a)) → Fits (option_and_then next value)
Fits-each next (Some a) fits = fits a refl
Fits-each next None fits = tt

IsFitting-value : (command : Option ToolCommand) → Fits command → IsFitting (or_value command)
IsFitting-value (Some command) fits = fits
IsFitting-value None fits = tt

-- ---- a rig ----

number-is_within : (default least most : ℕ) (text : Option (List ℕ)) (value : ℕ) → least ≤ default → default ≤ most → number_or default least most text ≡ Some value
    → (least ≤ value) × (value ≤ most)
unfolding number_or number_within
number-is_within default least most text value low high is = grind arith

clients-are_within : (text : Option (List ℕ)) (clients : ℕ) → clients_in text ≡ Some clients → (1 ≤ clients) × (clients ≤ 64)
clients-are_within text clients is = number-is_within 4 1 64 text clients (omega arith) (omega arith) is

messages-are_within : (text : Option (List ℕ)) (messages : ℕ) → messages_in text ≡ Some messages → messages ≤ 100000
messages-are_within text messages is = (number-is_within 100 0 100000 text messages (omega arith) (omega arith) is).1

rig-fits : (rows : List Row) → Fits (rig_values rows)
unfolding rig_values
rig-fits rows =
    let clients_text : Option (List ℕ) = value_given rig_spelling rows option.Clients in
    let messages_text : Option (List ℕ) = value_given rig_spelling rows option.Messages in
    Fits-each _ (kind_or kind.Qmi (value_given rig_spelling rows option.Kind)) (λ kind _.
    Fits-each _ (clients_in clients_text) (λ clients given.
    Fits-each _ (messages_in messages_text) (λ messages told.
    Fits-each _ (number_or 0 0 (2 ^ 64 - 1) (value_given rig_spelling rows option.Number)) (λ number _. record {
      some_client = (clients-are_within clients_text clients given).0;
      clients_fit = (clients-are_within clients_text clients given).1;
      messages_fit = messages-are_within messages_text messages told;
    }))))

transparency-fits : (rows : List Row) → Fits (transparency_values rows)
unfolding transparency_values
transparency-fits rows = Fits-each _ (kind_or kind.Qmi (value_given rig_spelling rows option.Kind)) (λ kind _. tt)

rig_asked-fits : (rows : List Row) → IsFitting (rig_asked rows)
unfolding rig_asked
rig_asked-fits rows =
    cond_both (is_given rig_spelling rows option.Transparent) (or_value (transparency_values rows)) (or_value (rig_values rows)) IsFitting
    (λ _. IsFitting-value (transparency_values rows) (transparency-fits rows)) (λ _. IsFitting-value (rig_values rows) (rig-fits rows))

-- ---- a capture ----

turns-are_within : (text : Option (List ℕ)) (turns : ℕ) → turns_in text ≡ Some turns → turns ≤ 1000000000000
turns-are_within text turns is = (number-is_within 1000000000000 0 1000000000000 text turns (omega arith) (omega arith) is).1

dissect-fits : (capture : List ℕ) (rows : List Row) → Fits (dissect_values capture rows)
unfolding dissect_values
dissect-fits capture rows =
    let turns_text : Option (List ℕ) = value_given dissect_spelling rows dissect_option.Turns in
    Fits-each _ (kind_or kind.Qmi (value_given dissect_spelling rows dissect_option.Kind)) (λ kind _.
    Fits-each _ (turns_in turns_text) (λ turns given.
    Fits-each _ (optional path_in (value_given dissect_spelling rows dissect_option.Tables)) (λ tables _.
    Fits-each _ (path_in capture) (λ path _. turns-are_within turns_text turns given))))

-- ---- all others ----

simulator-fits : (rows : List Row) → Fits (simulator_values rows)
unfolding simulator_values
simulator-fits rows = grind arith

proxy-fits : (kind : Kind) (rows : List Row) → Fits (proxy_values kind rows)
unfolding proxy_values
proxy-fits kind rows =
    Fits-each _ (settings_in kind rows) (λ settings _.
    Fits-each _ (option_and_then path_in (value_given proxy_spelling rows proxy.Device)) (λ device _. tt))

proxies-fits : (texts : List (List ℕ)) (rows : List Row) → Fits (proxies_values texts rows)
unfolding proxies_values
proxies-fits texts rows =
    Fits-each _ (settings_in kind.Qmi rows) (λ settings _.
    Fits-each _ (devices_in texts) (λ devices _. tt))

pump-fits : (read : Bool) (node bridge : List ℕ) (verbose : Bool) → Fits (pump_values read node bridge verbose)
unfolding pump_values
pump-fits read node bridge verbose = grind arith

-- ---- a text that is sent ----

sent-fits : (reference : ℕ) (number text : List ℕ) → Fits (sent_to reference number text)
sent-fits reference number text = by (can_be_sent number text) (λ is. is)
  where
    by : (b : Bool) → (b ≡ true → can_be_sent number text ≡ true) → Fits (cond b (Some (PduSubmit number text reference)) None)
    by true is = is refl
    by false is = tt

submitted-fits : (reference : ℕ) (value : Option (List ℕ)) → Fits (submitted reference value)
unfolding submitted
submitted-fits reference value = Fits-each _ (option_and_then (split_at 44) value) (λ pair _. sent-fits reference (chars pair.0) (chars pair.1))

-- ---- requests and descriptions ----

described-fits : (file name : Option (List ℕ)) → Fits (described file name)
unfolding described
described-fits file name =
    Fits-each _ file (λ named _.
    Fits-each _ (path_in named) (λ path _.
    Fits-each _ (optional short_in name) (λ message _. tt)))

requested-fits : (link : LinkSettings) (cid : Option ℕ) (file : Option (List ℕ)) (rows : List Row) → Fits (requested link cid file rows)
unfolding requested
requested-fits link cid file rows =
    Fits-each _ (device_in rows) (λ named _.
    Fits-each _ named (λ device _.
    Fits-each _ file (λ given _.
    Fits-each _ (path_in given) (λ tables _.
    Fits-each _ (value_given qmi_setting_spelling rows setting.Request) (λ called _.
    Fits-each _ (short_in called) (λ message _.
    Fits-each _ (follow_in (is_given qmi_setting_spelling rows setting.Follow) (value_given qmi_setting_spelling rows setting.Turns)) (λ follow _. tt)))))))

qmi_asked-fits : (link : LinkSettings) (cid : Option ℕ) (form : AnswerForm) (command : QmiCommand) (rows : List Row) → Fits (qmi_asked link cid form command rows)
unfolding qmi_asked
qmi_asked-fits link cid form command rows =
    Fits-each _ (device_in rows) (λ named _.
    Fits-each _ named (λ device _.
    Fits-each _ ((qmi_line command).request (value_given qmi_spelling rows command)) (λ request _. tt)))

asked_for-fits : (link : LinkSettings) (cid : Option ℕ) (form : AnswerForm) (reference : ℕ) (command : QmiCommand) (rows : List Row) → Fits (asked_for link cid form reference command rows)
unfolding asked_for
asked_for-fits link cid form reference command rows =
    let value : Option (List ℕ) = value_given qmi_spelling rows command in
    let name : Option (List ℕ) = value_given qmi_setting_spelling rows setting.Request in
    let by_itself : Option ToolCommand = cond (makes_messages command) (submitted reference value) (described value name) in
    let by_itself-fits : Fits by_itself =
    cond_both (makes_messages command) (submitted reference value) (described value name) Fits (λ _. submitted-fits reference value) (λ _. described-fits value name)
    in
    let otherwise : Fits (cond (qmi_asks command) (qmi_asked link cid form command rows) by_itself) =
    cond_both (qmi_asks command) (qmi_asked link cid form command rows) by_itself Fits (λ _. qmi_asked-fits link cid form command rows) (λ _. by_itself-fits)
    in
    cond_both (takes_tables command) (requested link cid value rows) (cond (qmi_asks command) (qmi_asked link cid form command rows) by_itself) Fits
    (λ _. requested-fits link cid value rows) (λ _. otherwise)

asked_with-fits : (link : LinkSettings) (cid : Option ℕ) (command : QmiCommand) (rows : List Row) → Fits (asked_with link cid command rows)
unfolding asked_with
asked_with-fits link cid command rows =
    Fits-each _ (form_given command rows) (λ form _.
    Fits-each _ (fits_tables command rows) (λ fits _.
    Fits-each _ (reference_in (makes_messages command) (value_given qmi_setting_spelling rows setting.Reference)) (λ reference _. asked_for-fits link cid form reference command rows)))

qmicli-fits : (command : QmiCommand) (rows : List Row) → Fits (qmicli_values command rows)
unfolding qmicli_values
qmicli-fits command rows =
    Fits-each _ (link_in (modem_kind rows) rows) (λ link _.
    Fits-each _ (optional (number_within 1 254) (value_given qmi_setting_spelling rows setting.ClientCid)) (λ cid _. asked_with-fits link cid command rows))

mbimcli-fits : (command : MbimCommand) (rows : List Row) → Fits (mbimcli_values command rows)
unfolding mbimcli_values
mbimcli-fits command rows =
    Fits-each _ (link_in kind.Mbim rows) (λ link _.
    Fits-each _ (device_in rows) (λ named _.
    Fits-each _ named (λ device _.
    Fits-each _ (flag_of (is_given mbim_setting_spelling rows mbim_setting.DecodeSms) (mbim_reads command)) (λ decode _.
    Fits-each _ (form_of decode (is_given mbim_setting_spelling rows mbim_setting.Json)) (λ form _.
    Fits-each _ ((mbim_line command).request (value_given mbim_spelling rows command)) (λ request _. tt))))))

-- ---- what the words ask for ----

asked_by-fits : {C : Type 0} (asks : C → Bool) (values : C → List Row → Option ToolCommand) (command : Result C UsageKind) (rows : List Row) → ((c : C) → Fits (values c rows))
    → IsFitting (asked_by asks values command rows)
asked_by-fits asks values (Ok command) rows fit = grind (arith, IsFitting-value (values command rows) (fit command))
asked_by-fits asks values (Err why) rows fit = grind arith

proxy_asked-fits : (kind : Kind) (rows : List Row) → IsFitting (proxy_asked kind rows)
unfolding proxy_asked
proxy_asked-fits kind rows =
    cond_both (is_given proxy_spelling rows proxy.Device) (or_value (proxy_values kind rows)) (Err usage.NoDevice) IsFitting
    (λ _. IsFitting-value (proxy_values kind rows) (proxy-fits kind rows)) (λ _. tt)

dissect-if_given-fits : (capture : Option (List ℕ)) (rows : List Row) → IsFitting (dissect_if_given capture rows)
dissect-if_given-fits (Some capture) rows = IsFitting-value (dissect_values capture rows) (dissect-fits capture rows)
dissect-if_given-fits None rows = tt

proxies-if_given-fits : (texts : Option (List (List ℕ))) (rows : List Row) → IsFitting (proxies_if_given texts rows)
proxies-if_given-fits (Some texts) rows = IsFitting-value (proxies_values texts rows) (proxies-fits texts rows)
proxies-if_given-fits None rows = tt

tool-fits : (tool : Tool) (rows : List Row) → IsFitting (tool_asked tool rows)
unfolding qmicli_asked mbimcli_asked proxies_asked simulator_asked dissect_asked modem_tool_asked
tool-fits tool.Qmicli rows = asked_by-fits qmi_asks qmicli_values _ rows (λ c. qmicli-fits c rows)
tool-fits tool.Mbimcli rows = asked_by-fits mbim_asks mbimcli_values _ rows (λ c. mbimcli-fits c rows)
tool-fits (tool.Proxy kind) rows = proxy_asked-fits kind rows
tool-fits tool.Proxies rows = proxies-if_given-fits (words_given (codes "devices") rows) rows
tool-fits tool.Simulator rows = IsFitting-value (simulator_values rows) (simulator-fits rows)
tool-fits tool.Rig rows = rig_asked-fits rows
tool-fits tool.Dissect rows = dissect-if_given-fits (word_given (codes "capture") rows) rows

named-fits : (tool : Option Tool) (words : List Text) → IsFitting (read_if_named tool words)
named-fits (Some tool) words =
    cond_both (is_refused (tool_app tool) words) (Err usage.Words) (tool_asked tool (matches_of (tool_app tool) words)) IsFitting
    (λ _. tt) (λ _. tool-fits tool (matches_of (tool_app tool) words))
named-fits None words = tt

pump-named-fits : (read : Option Bool) (node bridge : List ℕ) (verbose : Bool) → IsFitting (pump_if_named read node bridge verbose)
pump-named-fits (Some read) node bridge verbose = IsFitting-value (pump_values read node bridge verbose) (pump-fits read node bridge verbose)
pump-named-fits None node bridge verbose = tt

pump-asked-fits : (words : List Text) → IsFitting (pump_asked words)
unfolding pump_asked
pump-asked-fits [] = tt
pump-asked-fits (a ∷ []) = tt
pump-asked-fits (a ∷ b ∷ []) = tt
pump-asked-fits (a ∷ b ∷ c ∷ []) = tt
pump-asked-fits (name ∷ way ∷ node ∷ bridge ∷ []) = pump-named-fits (reads_named way) node bridge false
pump-asked-fits (name ∷ way ∷ node ∷ bridge ∷ more ∷ []) =
    cond_both (is_verbose more) (pump_if_named (reads_named way) node bridge true) (Err usage.Words) IsFitting
    (λ _. pump-named-fits (reads_named way) node bridge true) (λ _. tt)
pump-asked-fits (a ∷ b ∷ c ∷ d ∷ e ∷ f ∷ more) = tt

version-asked-fits : (words : List Text) → IsFitting (version_asked words)
unfolding version_asked
version-asked-fits [] = tt
version-asked-fits (name ∷ []) = tt
version-asked-fits (a ∷ b ∷ more) = tt

command-fits : (words : List Text) → IsFitting (command_in words)
unfolding command_in
command-fits [] = tt
command-fits (word ∷ more) =
    let of_others : Result ToolCommand UsageKind = if bytes_eq word (codes "version") then version_asked (word ∷ more) else read_if_named (tool_named word) (word ∷ more) in
    let others-fit : IsFitting of_others =
    cond_both (bytes_eq word (codes "version")) (version_asked (word ∷ more)) (read_if_named (tool_named word) (word ∷ more)) IsFitting
    (λ _. version-asked-fits (word ∷ more)) (λ _. named-fits (tool_named word) (word ∷ more)) in
    cond_both (bytes_eq word (codes "pump")) (pump_asked (word ∷ more)) of_others IsFitting
    (λ _. pump-asked-fits (word ∷ more)) (λ _. others-fit)

-- what is answered to words
pub answer-is_within : (words : List Text) (answer : Result ToolCommand WordFault) → Answers (command_in words) answer → IfOk answer IsWithinLimits
answer-is_within words (Ok command) is = subst IsFitting is (command-fits words)
answer-is_within words (Err why) is = tt
