-- Worked examples of answers and their lines.
-- Source: RFC 8259, sections 4 to 7; the tables of information buffers in the USB-IF MBIM specification 1.0.
use Rattle.std.specs.Prelude.{◌≡◌, ℕ, List, [], ◌∷◌, ◌++◌, codes}
use Rattle.serde_json.specs.Data.{object, no_members}
use Rattle.mbim_fields.specs.Value.{Value, number, uuid_of, octets, text_of, absent}
use Rattle.mbim_services.specs.Table.{Row, sms, phonebook, radio_state, packet_service, ip_configuration, device_services, sms_read, sms_delete, phonebook_read}
use Rattle.mbimcli_print.specs.Examples.{list, structure}
use Rattle.json_values.specs.declared.ending.Ending.TheVariants as ending
use Rattle.json_values.specs.Ends.{with_ending}
use Rattle.json_values.specs.Lines.{json_line}
use Rattle.fields_json.specs.Answers.{success_members}

-- what is printed of the answer to a command that has these values
abbrev pub Prints : Row → List Value → List ℕ → Type 0
Prints row values line = json_line (object (success_members row.done values)) ≡ line

-- words stand beside their numbers
abbrev pub RadioStateLine : Type 0
RadioStateLine = Prints radio_state (number 1 ∷ number 0 ∷ []) (codes "{\"HwRadioState\":1,\"HwRadioState word\":\"on\",\"SwRadioState\":0,\"SwRadioState word\":\"off\",\"result\":\"ok\"}\n")

-- a number that has no word stands alone
abbrev pub PacketServiceLine : Type 0
PacketServiceLine =
    Prints packet_service (number 0 ∷ number 9 ∷ number 32 ∷ number 50000000 ∷ number 10000000000 ∷ [])
    (codes "{\"DownlinkSpeed\":10000000000,\"HighestAvailableDataClass\":32,\"NwError\":0,\"PacketServiceState\":9,\"UplinkSpeed\":50000000,\"result\":\"ok\"}\n")

-- addresses with a prefix are objects, and one that isn't there is null; what counts the elements of a list is left out
abbrev pub IpConfigurationLine : Type 0
IpConfigurationLine =
    Prints ip_configuration
    (number 0 ∷ number 15 ∷ number 1
    ∷ number 1 ∷ list (structure (number 24 ∷ octets (10 ∷ 0 ∷ 0 ∷ 2 ∷ []) ∷ []) ∷ [])
    ∷ number 1 ∷ list (structure (number 64 ∷ octets (0x20 ∷ 0x01 ∷ 0x0D ∷ 0xB8 ∷ 0 ∷ 0 ∷ 0 ∷ 0 ∷ 0 ∷ 0 ∷ 0 ∷ 0 ∷ 0 ∷ 0 ∷ 0xFE ∷ 0x01 ∷ []) ∷ []) ∷ [])
    ∷ octets (10 ∷ 0 ∷ 0 ∷ 1 ∷ []) ∷ absent
    ∷ number 2 ∷ list (octets (10 ∷ 0 ∷ 0 ∷ 1 ∷ []) ∷ octets (192 ∷ 168 ∷ 100 ∷ 255 ∷ []) ∷ []) ∷ number 0 ∷ list [] ∷ number 1500 ∷ number 0 ∷ [])
    (codes "{\"IPv4Address\":[{\"Address\":\"10.0.0.2\",\"Prefix\":24}],\"IPv4ConfigurationAvailable\":15,\"IPv4DnsServer\":[\"10.0.0.1\",\"192.168.100.255\"],\"IPv4Gateway\":\"10.0.0.1\",\"IPv4Mtu\":1500,\"IPv6Address\":[{\"Address\":\"2001:0db8:0000:0000:0000:0000:0000:fe01\",\"Prefix\":64}],\"IPv6ConfigurationAvailable\":1,\"IPv6DnsServer\":[],\"IPv6Gateway\":null,\"IPv6Mtu\":0,\"SessionId\":0,\"result\":\"ok\"}\n")

-- lists in the structures of a list are arrays in its objects, and a UUID is a text
abbrev pub DeviceServicesLine : Type 0
DeviceServicesLine =
    Prints device_services
    (number 2 ∷ number 0
    ∷ list (structure (uuid_of sms ∷ number 0 ∷ number 0 ∷ number 2 ∷ list (number 1 ∷ number 2 ∷ []) ∷ []) ∷ structure (uuid_of phonebook ∷ number 1 ∷ number 3 ∷ number 0 ∷ list [] ∷ []) ∷ []) ∷ [])
    (codes "{\"DeviceServices\":[{\"Cids\":[1,2],\"DeviceServiceId\":\"533fbeeb-14fe-4467-9f90-33a223e56c3f\",\"DssPayload\":0,\"MaxDssInstances\":0},{\"Cids\":[],\"DeviceServiceId\":\"4bf38476-1e6a-41db-b1d8-bed289c25bdb\",\"DssPayload\":1,\"MaxDssInstances\":3}],\"MaxDssSessions\":0,\"result\":\"ok\"}\n")

-- a name with a tab, a backslash, a quotation mark, an é and U+1F600
abbrev pub PhonebookLine : Type 0
PhonebookLine =
    Prints phonebook_read
    (number 1 ∷ list (structure (number 4 ∷ text_of (codes "+491") ∷ text_of (97 ∷ 9 ∷ 92 ∷ 34 ∷ 0xE9 ∷ 0x1F600 ∷ []) ∷ []) ∷ []) ∷ [])
    (codes "{\"Entries\":[{\"EntryIndex\":4,\"Name\":\"a\\t\\\\\\\"" ++ 0xC3 ∷ 0xA9 ∷ 0xF0 ∷ 0x9F ∷ 0x98 ∷ 0x80 ∷ codes "\",\"Number\":\"+491\"}],\"result\":\"ok\"}\n")

-- the bytes of a message are hexadecimal digits
abbrev pub SmsLine : Type 0
SmsLine =
    Prints sms_read
    (number 0 ∷ number 1 ∷ list (structure (number 3 ∷ number 1 ∷ octets (0x07 ∷ 0x91 ∷ 0xAB ∷ 0xF0 ∷ []) ∷ []) ∷ []) ∷ [])
    (codes "{\"Format\":0,\"Messages\":[{\"MessageIndex\":3,\"MessageStatus\":1,\"PduData\":\"0791ABF0\"}],\"result\":\"ok\"}\n")

-- an answer with no field
abbrev pub NoFieldLine : Type 0
NoFieldLine = Prints sms_delete [] (codes "{\"result\":\"ok\"}\n")

-- a failure has its status
abbrev pub FailureLine : Type 0
FailureLine = json_line (object (with_ending (ending.Denied 14) no_members)) ≡ codes "{\"error\":14,\"result\":\"denied\"}\n"
