-- The commands of mbimcli.
use Rattle.std.specs.Prelude.{ℕ, Bool, true, false, List, [], ◌∷◌, Option, Some, None, codes, if◌then◌else◌, option_and_then, option_map, unwrap_or}
use Rattle.std.specs.Str.{bytes_eq}
use Rattle.mbim_requests.specs.declared.ContextIpType.{ContextIpType}
use Rattle.mbim_requests.specs.declared.ContextIpType.TheVariants as ip
use Rattle.mbim_requests.specs.declared.MbimRequest.{MbimRequest}
use Rattle.mbim_requests.specs.declared.MbimRequest.TheVariants as request
use Rattle.tool_words.specs.Commands.{CommandLine, plain, with_value}
use Rattle.tool_words.specs.Keys.{keyed, keyed_or, parts_in}
use Rattle.tool_words.specs.Spelling.{Spelling}
use Rattle.tool_words.specs.Values.{◌>>=◌, number_32_in, number_8_in, octets_in, optional, short_in, split_at}
use Rattle.tool_words.specs.declared.mbim_commands.MbimCommand.{MbimCommand}
use Rattle.tool_words.specs.declared.mbim_commands.MbimCommand.TheVariants as command

-- ---- the values of commands ----

-- whether the radio is to be on
unfoldable pub radio_in : List ℕ → Option Bool
radio_in text = if bytes_eq text (codes "on") then Some true else if bytes_eq text (codes "off") then Some false else None

-- how a context is addressed
unfoldable pub ip_type_in : List ℕ → Option ContextIpType
ip_type_in text =
    if bytes_eq text (codes "ipv4") then Some ip.Ipv4
    else if bytes_eq text (codes "ipv6") then Some ip.Ipv6
    else if bytes_eq text (codes "ipv4v6") then Some ip.Ipv4v6
    else None

-- session-id=N, access-string=TEXT or apn=TEXT, ip-type=ipv4, ipv6 or ipv4v6, username=TEXT and password=TEXT, each at most once
unfoldable pub context_of : List (List ℕ) → Option MbimRequest
context_of parts = do
  session_id ← keyed_or 0 number_32_in (codes "session-id" ∷ []) parts
  access_string ← keyed short_in (codes "access-string" ∷ codes "apn" ∷ []) parts
  ip_type ← keyed_or ip.Default ip_type_in (codes "ip-type" ∷ []) parts
  username ← keyed short_in (codes "username" ∷ []) parts
  password ← keyed short_in (codes "password" ∷ []) parts
  Some (request.Connect session_id access_string username password ip_type)

-- between commas
unfoldable pub connect_in : List ℕ → Option MbimRequest
connect_in text =
    option_and_then context_of
    (parts_in (codes "session-id" ∷ codes "access-string" ∷ codes "apn" ∷ codes "ip-type" ∷ codes "username" ∷ codes "password" ∷ []) text)

-- a data coding scheme and the bytes of a payload, with a comma between them
unfoldable pub ussd_in : List ℕ → Option (ℕ × List ℕ)
ussd_in text = do
  pair ← split_at 44 text
  scheme ← number_8_in pair.0
  payload ← octets_in pair.1
  Some (scheme, payload)

-- a telephone number, and the index behind a comma, if there is one
abbrev pub number_and_index : List ℕ → List ℕ × Option (List ℕ)
number_and_index text = unwrap_or (option_map (λ pair. (pair.0, Some pair.1)) (split_at 44 text)) (text, None)

-- a name and a telephone number, or these and an index, with commas between them
unfoldable pub entry_in : List ℕ → Option MbimRequest
entry_in text = do
  pair ← split_at 44 text
  name ← short_in pair.0
  number ← short_in (number_and_index pair.1).0
  index ← optional number_32_in (number_and_index pair.1).1
  Some (request.PhonebookWrite name number index)

-- ---- the commands ----

abbrev pub mbim_line : MbimCommand → CommandLine MbimRequest
mbim_line command.QueryDeviceCaps = plain (codes "query-device-caps") request.QueryDeviceCaps
mbim_line command.QuerySubscriberReadyStatus = plain (codes "query-subscriber-ready-status") request.QuerySubscriberReadyStatus
mbim_line command.QueryRadioState = plain (codes "query-radio-state") request.QueryRadioState
mbim_line command.SetRadioState = with_value (codes "set-radio-state") radio_in (λ on. request.SetRadioState on)
mbim_line command.QueryPinState = plain (codes "query-pin-state") request.QueryPinState
mbim_line command.QueryHomeProvider = plain (codes "query-home-provider") request.QueryHomeProvider
mbim_line command.QueryVisibleProviders = plain (codes "query-visible-providers") request.QueryVisibleProviders
mbim_line command.QueryRegistrationState = plain (codes "query-registration-state") request.QueryRegistrationState
mbim_line command.QueryPacketServiceState = plain (codes "query-packet-service-state") request.QueryPacketServiceState
mbim_line command.AttachPacketService = plain (codes "attach-packet-service") request.AttachPacketService
mbim_line command.DetachPacketService = plain (codes "detach-packet-service") request.DetachPacketService
mbim_line command.QuerySignalState = plain (codes "query-signal-state") request.QuerySignalState
mbim_line command.Connect = with_value (codes "connect") connect_in (λ connect. connect)
mbim_line command.Disconnect = with_value (codes "disconnect") number_32_in (λ session_id. request.Disconnect session_id)
mbim_line command.QueryConnectionState = with_value (codes "query-connection-state") number_32_in (λ session_id. request.QueryConnectionState session_id)
mbim_line command.QueryIpConfiguration = with_value (codes "query-ip-configuration") number_32_in (λ session_id. request.QueryIpConfiguration session_id)
mbim_line command.QueryDeviceServices = plain (codes "query-device-services") request.QueryDeviceServices
mbim_line command.QueryPacketStatistics = plain (codes "query-packet-statistics") request.QueryPacketStatistics
mbim_line command.QueryEmergencyMode = plain (codes "query-emergency-mode") request.QueryEmergencyMode
mbim_line command.SmsQueryConfiguration = plain (codes "sms-query-configuration") request.SmsQueryConfiguration
mbim_line command.SmsReadAll = plain (codes "sms-read-all") request.SmsReadAll
mbim_line command.SmsRead = with_value (codes "sms-read") number_32_in (λ index. request.SmsRead index)
mbim_line command.SmsDelete = with_value (codes "sms-delete") number_32_in (λ index. request.SmsDelete index)
mbim_line command.SmsQueryStoreStatus = plain (codes "sms-query-store-status") request.SmsQueryStoreStatus
mbim_line command.UssdInitiate = with_value (codes "ussd-initiate") ussd_in (λ message. request.UssdInitiate message.0 message.1)
mbim_line command.UssdContinue = with_value (codes "ussd-continue") ussd_in (λ message. request.UssdContinue message.0 message.1)
mbim_line command.UssdCancel = plain (codes "ussd-cancel") request.UssdCancel
mbim_line command.PhonebookQueryConfiguration = plain (codes "phonebook-query-configuration") request.PhonebookQueryConfiguration
mbim_line command.PhonebookReadAll = plain (codes "phonebook-read-all") request.PhonebookReadAll
mbim_line command.PhonebookRead = with_value (codes "phonebook-read") number_32_in (λ index. request.PhonebookRead index)
mbim_line command.PhonebookDelete = with_value (codes "phonebook-delete") number_32_in (λ index. request.PhonebookDelete index)
mbim_line command.PhonebookWrite = with_value (codes "phonebook-write") entry_in (λ entry. entry)

abbrev pub mbim_spelling : MbimCommand → Spelling
mbim_spelling command = (mbim_line command).spelling

unfoldable pub mbim_commands : List MbimCommand
mbim_commands =
    command.QueryDeviceCaps ∷ command.QuerySubscriberReadyStatus ∷ command.QueryRadioState
    ∷ command.QueryPinState ∷ command.QueryHomeProvider ∷ command.QueryVisibleProviders
    ∷ command.QueryRegistrationState ∷ command.QuerySignalState ∷ command.QueryPacketServiceState
    ∷ command.QueryDeviceServices ∷ command.QueryPacketStatistics ∷ command.QueryEmergencyMode
    ∷ command.SetRadioState ∷ command.AttachPacketService ∷ command.DetachPacketService
    ∷ command.Connect ∷ command.Disconnect ∷ command.QueryConnectionState ∷ command.QueryIpConfiguration
    ∷ command.PhonebookQueryConfiguration ∷ command.PhonebookRead ∷ command.PhonebookReadAll ∷ command.PhonebookWrite ∷ command.PhonebookDelete
    ∷ command.SmsQueryConfiguration ∷ command.SmsQueryStoreStatus ∷ command.SmsRead ∷ command.SmsReadAll ∷ command.SmsDelete
    ∷ command.UssdInitiate ∷ command.UssdContinue ∷ command.UssdCancel
    ∷ []

-- short messages are read
abbrev pub reads_messages : MbimCommand → Bool
reads_messages command.SmsRead = true
reads_messages command.SmsReadAll = true
reads_messages _ = false
