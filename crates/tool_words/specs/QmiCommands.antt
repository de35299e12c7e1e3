-- The commands of qmicli.
use Rattle.std.specs.Prelude.{ℕ, Bool, true, false, List, [], ◌∷◌, Option, Some, None, codes, if◌then◌else◌, option_and_then}
use Rattle.std.specs.Str.{bytes_eq}
use Rattle.qmi_requests.specs.declared.QmiRequest.{QmiRequest}
use Rattle.qmi_requests.specs.declared.QmiRequest.TheVariants as request
use Rattle.tool_words.specs.Commands.{CommandLine, plain, with_value}
use Rattle.tool_words.specs.Keys.{keyed, parts_in}
use Rattle.tool_words.specs.Spelling.{Spelling, valued}
use Rattle.tool_words.specs.Values.{◌>>=◌, number_32_in, number_8_in, octets_in, short_in, split_at}
use Rattle.tool_words.specs.declared.qmi_commands.QmiCommand.{QmiCommand}
use Rattle.tool_words.specs.declared.qmi_commands.QmiCommand.TheVariants as command

-- ---- the values of commands ----

-- the number of an operating mode's name
unfoldable pub mode_in : List ℕ → Option ℕ
mode_in text =
    if bytes_eq text (codes "online") then Some 0
    else if bytes_eq text (codes "low-power") then Some 1
    else if bytes_eq text (codes "factory-test") then Some 2
    else if bytes_eq text (codes "offline") then Some 3
    else if bytes_eq text (codes "reset") then Some 4
    else if bytes_eq text (codes "shutting-down") then Some 5
    else None

-- the number of an IP family
unfoldable pub ip_type_in : List ℕ → Option ℕ
ip_type_in text = if bytes_eq text (codes "4") then Some 4 else if bytes_eq text (codes "6") then Some 6 else None

-- apn=TEXT, username=TEXT, password=TEXT and ip-type=4 or ip-type=6, each at most once
unfoldable pub network_of : List (List ℕ) → Option QmiRequest
network_of parts = do
  apn ← keyed short_in (codes "apn" ∷ []) parts
  username ← keyed short_in (codes "username" ∷ []) parts
  password ← keyed short_in (codes "password" ∷ []) parts
  ip_type ← keyed ip_type_in (codes "ip-type" ∷ []) parts
  Some (request.WdsStartNetwork apn username password ip_type)

-- between commas
unfoldable pub start_network_in : List ℕ → Option QmiRequest
start_network_in text = option_and_then network_of (parts_in (codes "apn" ∷ codes "username" ∷ codes "password" ∷ codes "ip-type" ∷ []) text)

-- a storage and an index, with a comma between them
unfoldable pub stored_in : List ℕ → Option (ℕ × ℕ)
stored_in text = do
  pair ← split_at 44 text
  storage ← number_8_in pair.0
  index ← number_32_in pair.1
  Some (storage, index)

-- ---- the commands ----

-- the commands of qmicli; of the last three the first has its request from a file, and the others ask nothing of a modem
abbrev pub qmi_line : QmiCommand → CommandLine QmiRequest
qmi_line command.GetServiceVersionInfo = plain (codes "get-service-version-info") request.GetServiceVersionInfo
qmi_line command.DmsGetCapabilities = plain (codes "dms-get-capabilities") request.DmsGetCapabilities
qmi_line command.DmsGetManufacturer = plain (codes "dms-get-manufacturer") request.DmsGetManufacturer
qmi_line command.DmsGetModel = plain (codes "dms-get-model") request.DmsGetModel
qmi_line command.DmsGetRevision = plain (codes "dms-get-revision") request.DmsGetRevision
qmi_line command.DmsGetMsisdn = plain (codes "dms-get-msisdn") request.DmsGetMsisdn
qmi_line command.DmsGetIds = plain (codes "dms-get-ids") request.DmsGetIds
qmi_line command.DmsGetOperatingMode = plain (codes "dms-get-operating-mode") request.DmsGetOperatingMode
qmi_line command.DmsSetOperatingMode = with_value (codes "dms-set-operating-mode") mode_in (λ mode. request.DmsSetOperatingMode mode)
qmi_line command.NasGetSignalStrength = plain (codes "nas-get-signal-strength") request.NasGetSignalStrength
qmi_line command.NasNetworkScan = plain (codes "nas-network-scan") request.NasNetworkScan
qmi_line command.NasGetServingSystem = plain (codes "nas-get-serving-system") request.NasGetServingSystem
qmi_line command.NasGetHomeNetwork = plain (codes "nas-get-home-network") request.NasGetHomeNetwork
qmi_line command.NasGetDrx = plain (codes "nas-get-drx") request.NasGetDrx
qmi_line command.WdsStartNetwork = with_value (codes "wds-start-network") start_network_in (λ start. start)
qmi_line command.WdsStopNetwork = with_value (codes "wds-stop-network") number_32_in (λ handle. request.WdsStopNetwork handle)
qmi_line command.WdsGetPacketServiceStatus = plain (codes "wds-get-packet-service-status") request.WdsGetPacketServiceStatus
qmi_line command.WdsGetChannelRates = plain (codes "wds-get-channel-rates") request.WdsGetChannelRates
qmi_line command.WdsGetCurrentSettings = plain (codes "wds-get-current-settings") request.WdsGetCurrentSettings
qmi_line command.WmsRawSend = with_value (codes "wms-raw-send") octets_in (λ message. request.WmsRawSend message)
qmi_line command.WmsRawRead = with_value (codes "wms-raw-read") stored_in (λ place. request.WmsRawRead place.0 place.1)
qmi_line command.WmsDelete = with_value (codes "wms-delete") stored_in (λ place. request.WmsDelete place.0 place.1)
qmi_line command.WmsListMessages = with_value (codes "wms-list-messages") number_8_in (λ storage. request.WmsListMessages storage)
qmi_line command.Tables = record { spelling = valued (codes "tables"); request = λ _. None }
qmi_line command.PduSubmit = record { spelling = valued (codes "pdu-submit"); request = λ _. None }
qmi_line command.DescribeTables = record { spelling = valued (codes "describe-tables"); request = λ _. None }

abbrev pub qmi_spelling : QmiCommand → Spelling
qmi_spelling command = (qmi_line command).spelling

unfoldable pub qmi_commands : List QmiCommand
qmi_commands =
    command.GetServiceVersionInfo
    ∷ command.DmsGetCapabilities ∷ command.DmsGetManufacturer ∷ command.DmsGetModel ∷ command.DmsGetRevision
    ∷ command.DmsGetMsisdn ∷ command.DmsGetIds ∷ command.DmsGetOperatingMode ∷ command.DmsSetOperatingMode
    ∷ command.NasGetSignalStrength ∷ command.NasNetworkScan ∷ command.NasGetServingSystem ∷ command.NasGetHomeNetwork ∷ command.NasGetDrx
    ∷ command.WdsStartNetwork ∷ command.WdsStopNetwork ∷ command.WdsGetPacketServiceStatus ∷ command.WdsGetChannelRates
    ∷ command.WdsGetCurrentSettings
    ∷ command.WmsRawSend ∷ command.WmsRawRead ∷ command.WmsDelete ∷ command.WmsListMessages
    ∷ command.Tables ∷ command.PduSubmit ∷ command.DescribeTables ∷ []

-- a request is sent to a modem, but for the ones that make short messages and that print descriptions of messages
abbrev pub qmi_asks : QmiCommand → Bool
qmi_asks command.PduSubmit = false
qmi_asks command.DescribeTables = false
qmi_asks _ = true

-- a short message is read
abbrev pub reads_messages : QmiCommand → Bool
reads_messages command.WmsRawRead = true
reads_messages _ = false

-- short messages are made
abbrev pub makes_messages : QmiCommand → Bool
makes_messages command.PduSubmit = true
makes_messages _ = false

-- a request is made by a file's tables
abbrev pub takes_tables : QmiCommand → Bool
takes_tables command.Tables = true
takes_tables _ = false

-- a message of a file may be named
abbrev pub names_a_message : QmiCommand → Bool
names_a_message command.Tables = true
names_a_message command.DescribeTables = true
names_a_message _ = false
