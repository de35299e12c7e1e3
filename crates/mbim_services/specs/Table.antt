-- The layouts of the buffers of MBIM's commands: a line for each command.
-- Source: the tables of the services Basic Connect, SMS, USSD and Phonebook in the USB-IF MBIM specification 1.0, and libmbim's data/mbim-service-proxy-control.json.
use Rattle.std.specs.Prelude.{ℕ, List, [], ◌∷◌, Option, Some, None, Bool, chars, codes, map, filter, bytes_eq, ◌==◌, ◌&&◌, if◌then◌else◌}
use Prim.Native.String.{String}
use Rattle.kit_bytes.specs.declared.services.TheConstants.{BASIC_CONNECT, SMS, USSD, PHONEBOOK, STK}
use Rattle.mbim_fields.specs.Layout as layout
use Rattle.mbim_fields.specs.Layout.{in_place, binary, structure, Form, one, each, run, perhaps, Layout}
use Rattle.mbim_fields.specs.View.{NamedForm, layout_of}
use Rattle.mbim_services.specs.declared.table.Way.{Way}
use Rattle.mbim_services.specs.declared.table.Way.TheVariants.{Query, Set, Done}

-- a command: the UUID of its service and its number there, its CID, and the layouts of its query, of its set and of their answer
pub record Row : Type 0 where
  pub service : List ℕ
  pub cid : ℕ
  pub query : Option Layout
  pub set : Option Layout
  pub done : Layout

abbrev pub command : List ℕ → ℕ → Option Layout → Option Layout → List NamedForm → Row
command service cid query set done = record { service = service; cid = cid; query = query; set = set; done = layout_of done }

-- there is no such buffer
abbrev pub none : Option Layout
none = None

-- a buffer with these fields
abbrev pub fields : List NamedForm → Option Layout
fields named = Some (layout_of named)

-- a buffer with no bytes
abbrev pub empty : Option Layout
empty = fields []

abbrev pub field : String → Form → NamedForm
field name form = record { name = chars (codes name); form = form }

-- ---- how fields stand; a list names the place of the field that counts it ----

abbrev pub u32 : Form
u32 = one (in_place layout.u32)

abbrev pub u64 : Form
u64 = one (in_place layout.u64)

abbrev pub uuid : Form
uuid = one (in_place layout.uuid)

abbrev pub text : Form
text = one layout.text

abbrev pub bytes : Form
bytes = one binary

abbrev pub ipv4 : Form
ipv4 = perhaps layout.ipv4

abbrev pub ipv6 : Form
ipv6 = perhaps layout.ipv6

abbrev pub u32s : ℕ → Form
u32s place = each place (in_place layout.u32)

abbrev pub texts : ℕ → Form
texts place = each place layout.text

abbrev pub ipv4s : ℕ → Form
ipv4s place = run place layout.ipv4

abbrev pub ipv6s : ℕ → Form
ipv6s place = run place layout.ipv6

abbrev pub prefixed_ipv4s : ℕ → Form
prefixed_ipv4s place = run place layout.prefixed_ipv4

abbrev pub prefixed_ipv6s : ℕ → Form
prefixed_ipv6s place = run place layout.prefixed_ipv6

abbrev pub structures : ℕ → List NamedForm → Form
structures place named = each place (structure (layout_of named))

-- ---- services: the bytes of their UUIDs, in the order in which they are written ----

abbrev pub basic_connect : List ℕ
basic_connect = BASIC_CONNECT

abbrev pub sms : List ℕ
sms = SMS

abbrev pub ussd : List ℕ
ussd = USSD

abbrev pub phonebook : List ℕ
phonebook = PHONEBOOK

abbrev pub stk : List ℕ
stk = STK

abbrev pub proxy_control : List ℕ
proxy_control = 0x83 ∷ 0x8C ∷ 0xF7 ∷ 0xFB ∷ 0x8D ∷ 0x0D ∷ 0x4D ∷ 0x7F ∷ 0x87 ∷ 0x1E ∷ 0xD7 ∷ 0x1D ∷ 0xBE ∷ 0xFB ∷ 0xB3 ∷ 0x9B ∷ []

-- ---- structures, and layouts that stand more than once ----

abbrev pub provider : List NamedForm
provider = field "ProviderId" text ∷ field "ProviderState" u32 ∷ field "ProviderName" text ∷ field "CellularClass" u32 ∷ field "Rssi" u32 ∷ field "ErrorRate" u32 ∷ []

abbrev pub event : List NamedForm
event = field "DeviceServiceId" uuid ∷ field "CidsCount" u32 ∷ field "Cids" (u32s 1) ∷ []

abbrev pub events : List NamedForm
events = field "EventsCount" u32 ∷ field "Events" (structures 0 event) ∷ []

abbrev pub configuration : List NamedForm
configuration = field "DevicePath" text ∷ field "Timeout" u32 ∷ []

abbrev pub connection : List NamedForm
connection = field "SessionId" u32 ∷ field "ActivationState" u32 ∷ field "VoiceCallState" u32 ∷ field "IPType" u32 ∷ field "ContextType" uuid ∷ field "NwError" u32 ∷ []

abbrev pub ip_settings : List NamedForm
ip_settings = field "SessionId" u32 ∷ field "IPv4ConfigurationAvailable" u32 ∷ field "IPv6ConfigurationAvailable" u32 ∷ field "IPv4AddressCount" u32 ∷ field "IPv4Address" (prefixed_ipv4s 3) ∷ field "IPv6AddressCount" u32 ∷ field "IPv6Address" (prefixed_ipv6s 5) ∷ field "IPv4Gateway" ipv4 ∷ field "IPv6Gateway" ipv6 ∷ field "IPv4DnsServerCount" u32 ∷ field "IPv4DnsServer" (ipv4s 9) ∷ field "IPv6DnsServerCount" u32 ∷ field "IPv6DnsServer" (ipv6s 11) ∷ field "IPv4Mtu" u32 ∷ field "IPv6Mtu" u32 ∷ []

abbrev pub radio_states : List NamedForm
radio_states = field "HwRadioState" u32 ∷ field "SwRadioState" u32 ∷ []

abbrev pub packet_state : List NamedForm
packet_state = field "NwError" u32 ∷ field "PacketServiceState" u32 ∷ field "HighestAvailableDataClass" u32 ∷ field "UplinkSpeed" u64 ∷ field "DownlinkSpeed" u64 ∷ []

abbrev pub device_service : List NamedForm
device_service = field "DeviceServiceId" uuid ∷ field "DssPayload" u32 ∷ field "MaxDssInstances" u32 ∷ field "CidsCount" u32 ∷ field "Cids" (u32s 3) ∷ []

abbrev pub sms_message : List NamedForm
sms_message = field "MessageIndex" u32 ∷ field "MessageStatus" u32 ∷ field "PduData" bytes ∷ []

abbrev pub phonebook_entry : List NamedForm
phonebook_entry = field "EntryIndex" u32 ∷ field "Number" text ∷ field "Name" text ∷ []

-- ---- the commands: service, CID, query, set, answer ----

abbrev pub device_caps : Row
device_caps = command basic_connect 1 empty none (field "DeviceType" u32 ∷ field "CellularClass" u32 ∷ field "VoiceClass" u32 ∷ field "SimClass" u32 ∷ field "DataClass" u32 ∷ field "SmsCaps" u32 ∷ field "ControlCaps" u32 ∷ field "MaxSessions" u32 ∷ field "CustomDataClass" text ∷ field "DeviceId" text ∷ field "FirmwareInfo" text ∷ field "HardwareInfo" text ∷ [])

abbrev pub subscriber_ready : Row
subscriber_ready = command basic_connect 2 empty none (field "ReadyState" u32 ∷ field "SubscriberId" text ∷ field "SimIccId" text ∷ field "ReadyInfo" u32 ∷ field "TelephoneNumbersCount" u32 ∷ field "TelephoneNumbers" (texts 4) ∷ [])

abbrev pub radio_state : Row
radio_state = command basic_connect 3 empty (fields (field "RadioState" u32 ∷ [])) radio_states

abbrev pub pin : Row
pin = command basic_connect 4 empty none (field "PinType" u32 ∷ field "PinState" u32 ∷ field "RemainingAttempts" u32 ∷ [])

abbrev pub home_provider : Row
home_provider = command basic_connect 6 empty none provider

abbrev pub visible_providers : Row
visible_providers = command basic_connect 8 (fields (field "Action" u32 ∷ [])) none (field "ProvidersCount" u32 ∷ field "Providers" (structures 0 provider) ∷ [])

abbrev pub register_state : Row
register_state = command basic_connect 9 empty none (field "NwError" u32 ∷ field "RegisterState" u32 ∷ field "RegisterMode" u32 ∷ field "AvailableDataClasses" u32 ∷ field "CurrentCellularClass" u32 ∷ field "ProviderId" text ∷ field "ProviderName" text ∷ field "RoamingText" text ∷ field "RegistrationFlag" u32 ∷ [])

abbrev pub packet_service : Row
packet_service = command basic_connect 10 empty (fields (field "PacketServiceAction" u32 ∷ [])) packet_state

abbrev pub signal_state : Row
signal_state = command basic_connect 11 empty none (field "Rssi" u32 ∷ field "ErrorRate" u32 ∷ field "SignalStrengthInterval" u32 ∷ field "RssiThreshold" u32 ∷ field "ErrorRateThreshold" u32 ∷ [])

abbrev pub connect : Row
connect = command basic_connect 12 (fields connection) (fields (field "SessionId" u32 ∷ field "ActivationCommand" u32 ∷ field "AccessString" text ∷ field "UserName" text ∷ field "Password" text ∷ field "Compression" u32 ∷ field "AuthProtocol" u32 ∷ field "IPType" u32 ∷ field "ContextType" uuid ∷ [])) connection

abbrev pub ip_configuration : Row
ip_configuration = command basic_connect 15 (fields ip_settings) none ip_settings

abbrev pub device_services : Row
device_services = command basic_connect 16 empty none (field "DeviceServicesCount" u32 ∷ field "MaxDssSessions" u32 ∷ field "DeviceServices" (structures 0 device_service) ∷ [])

abbrev pub subscribe_list : Row
subscribe_list = command basic_connect 19 none (fields events) events

abbrev pub packet_statistics : Row
packet_statistics = command basic_connect 20 empty none (field "InDiscards" u32 ∷ field "InErrors" u32 ∷ field "InOctets" u64 ∷ field "InPackets" u64 ∷ field "OutOctets" u64 ∷ field "OutPackets" u64 ∷ field "OutErrors" u32 ∷ field "OutDiscards" u32 ∷ [])

abbrev pub emergency_mode : Row
emergency_mode = command basic_connect 22 empty none (field "EmergencyMode" u32 ∷ [])

abbrev pub sms_configuration : Row
sms_configuration = command sms 1 empty none (field "SmsStorageState" u32 ∷ field "Format" u32 ∷ field "MaxMessages" u32 ∷ field "CdmaShortMessageSize" u32 ∷ field "ScAddress" text ∷ [])

abbrev pub sms_read : Row
sms_read = command sms 2 (fields (field "Format" u32 ∷ field "Flag" u32 ∷ field "MessageIndex" u32 ∷ [])) none (field "Format" u32 ∷ field "MessagesCount" u32 ∷ field "Messages" (structures 1 sms_message) ∷ [])

abbrev pub sms_delete : Row
sms_delete = command sms 4 none (fields (field "Flag" u32 ∷ field "MessageIndex" u32 ∷ [])) []

abbrev pub sms_store_status : Row
sms_store_status = command sms 5 empty none (field "Flag" u32 ∷ field "MessageIndex" u32 ∷ [])

abbrev pub ussd_exchange : Row
ussd_exchange = command ussd 1 none (fields (field "Action" u32 ∷ field "DataCodingScheme" u32 ∷ field "Payload" bytes ∷ [])) (field "Response" u32 ∷ field "SessionState" u32 ∷ field "DataCodingScheme" u32 ∷ field "Payload" bytes ∷ [])

abbrev pub phonebook_configuration : Row
phonebook_configuration = command phonebook 1 empty none (field "State" u32 ∷ field "TotalEntries" u32 ∷ field "UsedEntries" u32 ∷ field "MaxNumberLength" u32 ∷ field "MaxNameLength" u32 ∷ [])

abbrev pub phonebook_read : Row
phonebook_read = command phonebook 2 (fields (field "FilterFlag" u32 ∷ field "FilterIndex" u32 ∷ [])) none (field "EntryCount" u32 ∷ field "Entries" (structures 0 phonebook_entry) ∷ [])

abbrev pub phonebook_delete : Row
phonebook_delete = command phonebook 3 none (fields (field "FilterFlag" u32 ∷ field "FilterIndex" u32 ∷ [])) []

abbrev pub phonebook_write : Row
phonebook_write = command phonebook 4 none (fields (field "SaveFlag" u32 ∷ field "SaveIndex" u32 ∷ field "Number" text ∷ field "Name" text ∷ [])) []

abbrev pub proxy_configuration : Row
proxy_configuration = command proxy_control 1 none (fields configuration) []

abbrev pub rows : List Row
rows =
    device_caps ∷ subscriber_ready ∷ radio_state ∷ pin ∷ home_provider ∷ visible_providers ∷ register_state ∷ packet_service ∷ signal_state ∷ connect ∷ ip_configuration ∷ device_services ∷ subscribe_list ∷ packet_statistics ∷ emergency_mode ∷ sms_configuration ∷ sms_read ∷ sms_delete ∷ sms_store_status ∷ ussd_exchange ∷ phonebook_configuration ∷ phonebook_read ∷ phonebook_delete ∷ phonebook_write ∷ proxy_configuration ∷ []

-- ---- finding a layout ----

abbrev pub layout_in : Row → Way → Option Layout
layout_in row Query = row.query
layout_in row Set = row.set
layout_in row Done = Some row.done

-- the layout of what is sent, a set or a query
abbrev pub layout_sent : Row → (set : Bool) → Option Layout
layout_sent row set = if set then row.set else row.query

-- it is this command's row
abbrev pub is_of : Row → List ℕ → ℕ → Bool
is_of row service cid = bytes_eq row.service service && row.cid == cid

-- the layout in the first row of a command
abbrev pub find : List Row → List ℕ → ℕ → Way → Option Layout
find [] service cid way = None
find (row ∷ rows) service cid way = if is_of row service cid then layout_in row way else find rows service cid way

-- the layout of a buffer, if the table has one
unfoldable pub layout_for : List ℕ → ℕ → Way → Option Layout
layout_for service cid way = find rows service cid way

-- ---- the commands of a service ----

-- their CIDs, in the order of these rows
abbrev pub cids_among : (service : List ℕ) → List Row → List ℕ
cids_among service among = map (λ row. row.cid) (filter (λ row. bytes_eq row.service service) among)

abbrev pub service_cids : (service : List ℕ) → List ℕ
service_cids service = cids_among service rows
