-- The command that each request sends: its line of the table, whether it asks or sets, and the values of the fields of its buffer.
-- Sources: the USB-IF MBIM specification 1.0, section 10, for what the numbers mean; libmbim's src/mbimcli/mbimcli-basic-connect.c, mbimcli-sms.c, mbimcli-ussd.c
-- and mbimcli-phonebook.c for which option sends which, and its src/libmbim-glib/mbim-device.c for the command to the proxy.
use Rattle.std.specs.Prelude.{ℕ, ◌^◌, ◌<◌, ◌≤◌, Bool, true, false, IsTrue, if◌then◌else◌, List, [], ◌∷◌, length, Option, Some, None, option_and_then, IfSome}
use Rattle.std.specs.Str.{encode_utf8_all, all_scalars}
use Rattle.kit_bytes.specs.declared.short.TheConstants.{LONGEST_SHORT_TEXT, LONGEST_SHORT_OCTETS, LONGEST_PATH}
use Rattle.mbim_requests.specs.declared.MbimRequest.{MbimRequest}
use Rattle.mbim_requests.specs.declared.MbimRequest.TheVariants as request
use Rattle.mbim_requests.specs.declared.ContextIpType.{ContextIpType}
use Rattle.mbim_requests.specs.declared.ContextIpType.TheVariants as ip_type
use Rattle.mbim_fields.specs.Value.{Value, number, uuid_of, octets, text_of, absent, elements, no_more}
use Rattle.mbim_fields.specs.Canon.{canon}
use Rattle.mbim_services.specs.Table as table
use Rattle.mbim_services.specs.Table.{Row, layout_sent}

pub record Sent : Type 0 where
  pub row : Row
  pub set : Bool
  pub values : List Value

abbrev pub asks : Row → List Value → Sent
asks row values = record { row = row; set = false; values = values }

abbrev pub sets : Row → List Value → Sent
sets row values = record { row = row; set = true; values = values }

-- ---- values ----

-- of a field that says nothing
abbrev pub zero : Value
zero = number 0

-- MBIM_RADIO_SWITCH_STATE: MBIMRadioOff and MBIMRadioOn
abbrev pub radio_switch : Bool → Value
radio_switch on = number (if on then 1 else 0)

-- MBIM_VISIBLE_PROVIDERS_ACTION: MBIMVisibleProvidersActionFullScan
abbrev pub full_scan : Value
full_scan = number 0

-- MBIM_PACKET_SERVICE_ACTION: MBIMPacketServiceActionAttach and MBIMPacketServiceActionDetach
abbrev pub attach : Value
attach = number 0

abbrev pub detach : Value
detach = number 1

-- MBIM_ACTIVATION_COMMAND: MBIMActivationCommandDeactivate and MBIMActivationCommandActivate
abbrev pub deactivate : Value
deactivate = number 0

abbrev pub activate : Value
activate = number 1

-- MBIM_COMPRESSION: MBIMCompressionNone
abbrev pub no_compression : Value
no_compression = number 0

-- MBIM_AUTH_PROTOCOL: MBIMAuthProtocolNone
abbrev pub no_authentication : Value
no_authentication = number 0

-- MBIM_CONTEXT_IP_TYPE: MBIMContextIPTypeDefault, MBIMContextIPTypeIPv4, MBIMContextIPTypeIPv6 and MBIMContextIPTypeIPv4v6
abbrev pub context_ip_type : ContextIpType → Value
context_ip_type ip_type.Default = number 0
context_ip_type ip_type.Ipv4 = number 1
context_ip_type ip_type.Ipv6 = number 2
context_ip_type ip_type.Ipv4v6 = number 3

-- MBIMContextTypeInternet, 7e5e2a7e-4e6f-7272-736b-656e7e5e2a7e
abbrev pub internet : Value
internet = uuid_of (0x7E ∷ 0x5E ∷ 0x2A ∷ 0x7E ∷ 0x4E ∷ 0x6F ∷ 0x72 ∷ 0x72 ∷ 0x73 ∷ 0x6B ∷ 0x65 ∷ 0x6E ∷ 0x7E ∷ 0x5E ∷ 0x2A ∷ 0x7E ∷ [])

-- MBIM_SMS_FORMAT: MBIMSmsFormatPdu
abbrev pub pdu : Value
pdu = number 0

-- MBIM_SMS_FLAG and MBIM_PHONEBOOK_FLAG: all, or the one with the index behind
abbrev pub all : Value
all = number 0

abbrev pub one : Value
one = number 1

-- MBIM_PHONEBOOK_WRITE_FLAG, and the index behind: MBIMPhonebookFlagSaveUnused and MBIMPhonebookFlagSaveIndex
abbrev pub save_flag : Option ℕ → Value
save_flag None = number 0
save_flag (Some index) = number 1

abbrev pub save_index : Option ℕ → Value
save_index None = zero
save_index (Some index) = number index

-- MBIM_USSD_ACTION: MBIMUSSDInitiate, MBIMUSSDContinue and MBIMUSSDCancel
abbrev pub initiate : Value
initiate = number 0

abbrev pub go_on : Value
go_on = number 1

abbrev pub cancel : Value
cancel = number 2

-- an empty list
abbrev pub no_elements : Value
no_elements = elements no_more

abbrev pub no_text : Value
no_text = text_of []

abbrev pub text_given : Option (List ℕ) → Value
text_given None = no_text
text_given (Some text) = text_of text

-- the seconds for which libmbim's tools have the proxy wait for its modem
abbrev pub timeout : Value
timeout = number 30

-- what is to become of a session
abbrev pub connection : (session : ℕ) → (activation access username password : Value) → ContextIpType → List Value
connection session activation access username password ip_type =
    number session ∷ activation ∷ access ∷ username ∷ password ∷ no_compression ∷ no_authentication ∷ context_ip_type ip_type ∷ internet ∷ []

-- the query for the addresses of a session: all but its id is empty
abbrev pub ip_configuration_of : ℕ → List Value
ip_configuration_of session =
    number session ∷ zero ∷ zero ∷ zero ∷ no_elements ∷ zero ∷ no_elements ∷ absent ∷ absent ∷ zero ∷ no_elements ∷ zero ∷ no_elements ∷ zero ∷ zero ∷ []

-- ---- requests ----

abbrev pub sent_by : MbimRequest → Sent
sent_by request.QueryDeviceCaps = asks table.device_caps []
sent_by request.QuerySubscriberReadyStatus = asks table.subscriber_ready []
sent_by request.QueryRadioState = asks table.radio_state []
sent_by (request.SetRadioState on) = sets table.radio_state (radio_switch on ∷ [])
sent_by request.QueryPinState = asks table.pin []
sent_by request.QueryHomeProvider = asks table.home_provider []
sent_by request.QueryVisibleProviders = asks table.visible_providers (full_scan ∷ [])
sent_by request.QueryRegistrationState = asks table.register_state []
sent_by request.QueryPacketServiceState = asks table.packet_service []
sent_by request.AttachPacketService = sets table.packet_service (attach ∷ [])
sent_by request.DetachPacketService = sets table.packet_service (detach ∷ [])
sent_by request.QuerySignalState = asks table.signal_state []
sent_by (request.Connect session access username password ip_type) = sets table.connect (connection session activate (text_given access) (text_given username) (text_given password) ip_type)
sent_by (request.Disconnect session) = sets table.connect (connection session deactivate no_text no_text no_text ip_type.Default)
sent_by (request.QueryConnectionState session) = asks table.connect (number session ∷ zero ∷ zero ∷ zero ∷ internet ∷ zero ∷ [])
sent_by (request.QueryIpConfiguration session) = asks table.ip_configuration (ip_configuration_of session)
sent_by request.QueryDeviceServices = asks table.device_services []
sent_by request.QueryPacketStatistics = asks table.packet_statistics []
sent_by request.QueryEmergencyMode = asks table.emergency_mode []
sent_by request.SmsQueryConfiguration = asks table.sms_configuration []
sent_by request.SmsReadAll = asks table.sms_read (pdu ∷ all ∷ zero ∷ [])
sent_by (request.SmsRead index) = asks table.sms_read (pdu ∷ one ∷ number index ∷ [])
sent_by (request.SmsDelete index) = sets table.sms_delete (one ∷ number index ∷ [])
sent_by request.SmsQueryStoreStatus = asks table.sms_store_status []
sent_by (request.UssdInitiate scheme payload) = sets table.ussd_exchange (initiate ∷ number scheme ∷ octets payload ∷ [])
sent_by (request.UssdContinue scheme payload) = sets table.ussd_exchange (go_on ∷ number scheme ∷ octets payload ∷ [])
sent_by request.UssdCancel = sets table.ussd_exchange (cancel ∷ zero ∷ octets [] ∷ [])
sent_by request.PhonebookQueryConfiguration = asks table.phonebook_configuration []
sent_by request.PhonebookReadAll = asks table.phonebook_read (all ∷ zero ∷ [])
sent_by (request.PhonebookRead index) = asks table.phonebook_read (one ∷ number index ∷ [])
sent_by (request.PhonebookDelete index) = sets table.phonebook_delete (one ∷ number index ∷ [])
sent_by (request.PhonebookWrite name phone index) = sets table.phonebook_write (save_flag index ∷ save_index index ∷ text_of phone ∷ text_of name ∷ [])
sent_by (request.ProxyConfiguration path) = sets table.proxy_configuration (text_of path ∷ timeout ∷ [])

-- its buffer: the one encoding of its values
abbrev pub buffer_sent : Sent → Option (List ℕ)
buffer_sent sent = option_and_then (λ layout. canon layout sent.values) (layout_sent sent.row sent.set)

-- ---- what the types of a request's values say of them ----

-- characters that take at most so many bytes in UTF-8
abbrev pub IsText : ℕ → List ℕ → Type 0
IsText limit chars = IsTrue (all_scalars chars) × (length (encode_utf8_all chars) ≤ limit)

abbrev pub IsIndex : ℕ → Type 0
IsIndex index = index < 2 ^ 32

abbrev pub IsInRange : MbimRequest → Type 0
IsInRange (request.Connect session access username password ip_type) =
    IsIndex session × IfSome access (IsText LONGEST_SHORT_TEXT) × IfSome username (IsText LONGEST_SHORT_TEXT) × IfSome password (IsText LONGEST_SHORT_TEXT)
IsInRange (request.Disconnect session) = IsIndex session
IsInRange (request.QueryConnectionState session) = IsIndex session
IsInRange (request.QueryIpConfiguration session) = IsIndex session
IsInRange (request.SmsRead index) = IsIndex index
IsInRange (request.SmsDelete index) = IsIndex index
IsInRange (request.UssdInitiate scheme payload) = (scheme < 2 ^ 8) × (length payload ≤ LONGEST_SHORT_OCTETS)
IsInRange (request.UssdContinue scheme payload) = (scheme < 2 ^ 8) × (length payload ≤ LONGEST_SHORT_OCTETS)
IsInRange (request.PhonebookRead index) = IsIndex index
IsInRange (request.PhonebookDelete index) = IsIndex index
IsInRange (request.PhonebookWrite name phone index) = IsText LONGEST_SHORT_TEXT name × IsText LONGEST_SHORT_TEXT phone × IfSome index IsIndex
IsInRange (request.ProxyConfiguration path) = IsText LONGEST_PATH path
IsInRange _ = Unit {0}
