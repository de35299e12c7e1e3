-- Worked examples of answers and their texts.
use Rattle.std.specs.Prelude.{◌≡◌, ℕ, List, [], ◌∷◌, codes}
use Rattle.mbim_fields.specs.Value.{Value, number, uuid_of, octets, text_of, absent, elements, members, values_of}
use Rattle.mbim_services.specs.Table.{Row, sms, phonebook, device_caps, radio_state, register_state, packet_service, ip_configuration, device_services, sms_read, sms_delete, phonebook_read}
use Rattle.mbimcli_print.specs.Answer.{printed}

-- what is printed of the answer to a command that has these values
abbrev pub Prints : Row → List Value → List ℕ → Type 0
Prints row values text = printed row.done values ≡ text

abbrev pub list : List Value → Value
list values = elements (values_of values)

abbrev pub structure : List Value → Value
structure values = members (values_of values)

-- ---- numbers and texts ----

abbrev pub DeviceCapsText : Type 0
DeviceCapsText =
    Prints device_caps
    (number 1 ∷ number 1 ∷ number 0 ∷ number 2 ∷ number 2147483680 ∷ number 3 ∷ number 1 ∷ number 16
    ∷ text_of (codes "HSPA+") ∷ text_of (codes "353456789012345") ∷ text_of (codes "11.235.07") ∷ text_of [] ∷ [])
    (codes "DeviceType: 1\nCellularClass: 1\nVoiceClass: 0\nSimClass: 2\nDataClass: 2147483680\nSmsCaps: 3\nControlCaps: 1\nMaxSessions: 16\nCustomDataClass: HSPA+\nDeviceId: 353456789012345\nFirmwareInfo: 11.235.07\nHardwareInfo: \n")

-- words by the names of fields
abbrev pub RadioStateText : Type 0
RadioStateText = Prints radio_state (number 1 ∷ number 0 ∷ []) (codes "HwRadioState: 1 (on)\nSwRadioState: 0 (off)\n")

abbrev pub RegisterStateText : Type 0
RegisterStateText =
    Prints register_state
    (number 0 ∷ number 3 ∷ number 1 ∷ number 32 ∷ number 1 ∷ text_of (codes "26201") ∷ text_of (codes "Telekom.de") ∷ text_of [] ∷ number 0 ∷ [])
    (codes "NwError: 0\nRegisterState: 3 (home)\nRegisterMode: 1\nAvailableDataClasses: 32\nCurrentCellularClass: 1\nProviderId: 26201\nProviderName: Telekom.de\nRoamingText: \nRegistrationFlag: 0\n")

-- a number that has no word
abbrev pub PacketServiceText : Type 0
PacketServiceText =
    Prints packet_service (number 0 ∷ number 9 ∷ number 32 ∷ number 50000000 ∷ number 10000000000 ∷ [])
    (codes "NwError: 0\nPacketServiceState: 9\nHighestAvailableDataClass: 32\nUplinkSpeed: 50000000\nDownlinkSpeed: 10000000000\n")

-- ---- addresses ----

-- one with a prefix of each family, a gateway, and a gateway that isn't there
abbrev pub IpConfigurationText : Type 0
IpConfigurationText =
    Prints ip_configuration
    (number 0 ∷ number 15 ∷ number 1
    ∷ number 1 ∷ list (structure (number 24 ∷ octets (10 ∷ 0 ∷ 0 ∷ 2 ∷ []) ∷ []) ∷ [])
    ∷ number 1 ∷ list (structure (number 64 ∷ octets (0x20 ∷ 0x01 ∷ 0x0D ∷ 0xB8 ∷ 0 ∷ 0 ∷ 0 ∷ 0 ∷ 0 ∷ 0 ∷ 0 ∷ 0 ∷ 0 ∷ 0 ∷ 0xFE ∷ 0x01 ∷ []) ∷ []) ∷ [])
    ∷ octets (10 ∷ 0 ∷ 0 ∷ 1 ∷ []) ∷ absent
    ∷ number 2 ∷ list (octets (10 ∷ 0 ∷ 0 ∷ 1 ∷ []) ∷ octets (192 ∷ 168 ∷ 100 ∷ 255 ∷ []) ∷ []) ∷ number 0 ∷ list [] ∷ number 1500 ∷ number 0 ∷ [])
    (codes "SessionId: 0\nIPv4ConfigurationAvailable: 15\nIPv6ConfigurationAvailable: 1\nIPv4Address: 1\n  1:\n    Prefix: 24\n    Address: 10.0.0.2\nIPv6Address: 1\n  1:\n    Prefix: 64\n    Address: 2001:0db8:0000:0000:0000:0000:0000:fe01\nIPv4Gateway: 10.0.0.1\nIPv4DnsServer: 2\n  1: 10.0.0.1\n  2: 192.168.100.255\nIPv6DnsServer: 0\nIPv4Mtu: 1500\nIPv6Mtu: 0\n")

-- ---- lists ----

-- lists in the structures of a list
abbrev pub DeviceServicesText : Type 0
DeviceServicesText =
    Prints device_services
    (number 2 ∷ number 0
    ∷ list (structure (uuid_of sms ∷ number 0 ∷ number 0 ∷ number 2 ∷ list (number 1 ∷ number 2 ∷ []) ∷ []) ∷ structure (uuid_of phonebook ∷ number 1 ∷ number 3 ∷ number 0 ∷ list [] ∷ []) ∷ []) ∷ [])
    (codes "MaxDssSessions: 0\nDeviceServices: 2\n  1:\n    DeviceServiceId: 533fbeeb-14fe-4467-9f90-33a223e56c3f\n    DssPayload: 0\n    MaxDssInstances: 0\n    Cids: 2\n      1: 1\n      2: 2\n  2:\n    DeviceServiceId: 4bf38476-1e6a-41db-b1d8-bed289c25bdb\n    DssPayload: 1\n    MaxDssInstances: 3\n    Cids: 0\n")

-- a name with a tab, a backslash, an é and U+1F600
abbrev pub PhonebookText : Type 0
PhonebookText =
    Prints phonebook_read
    (number 1 ∷ list (structure (number 4 ∷ text_of (codes "+491") ∷ text_of (97 ∷ 9 ∷ 92 ∷ 0xE9 ∷ 0x1F600 ∷ []) ∷ []) ∷ []) ∷ [])
    (codes "Entries: 1\n  1:\n    EntryIndex: 4\n    Number: +491\n    Name: a\\u{9}\\u{5c}\\u{e9}\\u{1f600}\n")

abbrev pub EmptyPhonebookText : Type 0
EmptyPhonebookText = Prints phonebook_read (number 0 ∷ list [] ∷ []) (codes "Entries: 0\n")

abbrev pub SmsText : Type 0
SmsText =
    Prints sms_read
    (number 0 ∷ number 1 ∷ list (structure (number 3 ∷ number 1 ∷ octets (0x07 ∷ 0x91 ∷ 0xAB ∷ 0xF0 ∷ []) ∷ []) ∷ []) ∷ [])
    (codes "Format: 0\nMessages: 1\n  1:\n    MessageIndex: 3\n    MessageStatus: 1\n    PduData: 0791ABF0\n")

-- ---- an answer with no field ----

abbrev pub NoFieldText : Type 0
NoFieldText = Prints sms_delete [] (codes "ok\n")
