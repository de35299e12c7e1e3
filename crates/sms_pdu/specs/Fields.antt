-- Where the fields of a message's body stand, and where one isn't whole. A byte that isn't there counts as 0.
-- Source: 3GPP TS 23.040, sections 9.1.2.5, 9.2.2.1 and 9.2.2.2; in front of a body stands the service centre's address, as in 3GPP TS 27.005, section 3.1.
use Rattle.std.specs.Prelude.{ℕ, ◌+◌, ◌-◌, ◌/◌, ◌%◌, ◌==◌, nat_lt, nat_le, Bool, ◌&&◌, List, [], ◌∷◌, length, slice_index, Option, Some, None, find, option_map, if◌then◌else◌}
use Rattle.std.specs.Option.{option_or}
use Rattle.sms_pdu.specs.declared.fields.Field.{Field}
use Rattle.sms_pdu.specs.declared.pdu.PduFault.{PduFault}
use Rattle.sms_pdu.specs.declared.pdu.PduFault.TheVariants.{Kind, Short}
use Rattle.sms_pdu.specs.Coding.{octets_of}

-- ---- the first octet, behind the service centre ----

abbrev pub first_place : (bytes : List ℕ) → ℕ
first_place bytes = 1 + slice_index bytes 0

abbrev pub first_octet : (bytes : List ℕ) → ℕ
first_octet bytes = slice_index bytes (first_place bytes)

-- its two low bits are 0 for DELIVER and 1 for SUBMIT
abbrev pub kind : (bytes : List ℕ) → ℕ
kind bytes = first_octet bytes % 4

abbrev pub is_submit : (bytes : List ℕ) → Bool
is_submit bytes = kind bytes == 1

-- ---- the address, behind the reference of a SUBMIT ----

abbrev pub reference_size : (bytes : List ℕ) → ℕ
reference_size bytes = if is_submit bytes then 1 else 0

abbrev pub address_place : (bytes : List ℕ) → ℕ
address_place bytes = first_place bytes + 1 + reference_size bytes

-- how many half octets it has
abbrev pub address_count : (bytes : List ℕ) → ℕ
address_count bytes = slice_index bytes (address_place bytes)

abbrev pub address_size : (bytes : List ℕ) → ℕ
address_size bytes = (address_count bytes + 1) / 2

-- ---- protocol, coding, and time or validity ----

abbrev pub protocol_place : (bytes : List ℕ) → ℕ
protocol_place bytes = address_place bytes + 2 + address_size bytes

abbrev pub coding : (bytes : List ℕ) → ℕ
coding bytes = slice_index bytes (protocol_place bytes + 1)

abbrev pub time_place : (bytes : List ℕ) → ℕ
time_place bytes = protocol_place bytes + 2

-- the validity of a SUBMIT by the first octet's bits 4 and 3
abbrev pub validity_size : (form : ℕ) → ℕ
validity_size form = slice_index (0 ∷ 7 ∷ 1 ∷ 7 ∷ []) form

abbrev pub time_size : (bytes : List ℕ) → ℕ
time_size bytes = if is_submit bytes then validity_size (first_octet bytes / 8 % 4) else 7

-- ---- the user data, and the header in front of them ----

abbrev pub length_place : (bytes : List ℕ) → ℕ
length_place bytes = time_place bytes + time_size bytes

-- how many codes or octets they have
abbrev pub data_count : (bytes : List ℕ) → ℕ
data_count bytes = slice_index bytes (length_place bytes)

abbrev pub data_place : (bytes : List ℕ) → ℕ
data_place bytes = length_place bytes + 1

abbrev pub data_size : (bytes : List ℕ) → ℕ
data_size bytes = octets_of (coding bytes) (data_count bytes)

-- the first octet's bit 6 tells of a header, which begins with its length
abbrev pub header_size : (bytes : List ℕ) → ℕ
header_size bytes = if first_octet bytes / 64 % 2 == 1 then 1 + slice_index bytes (data_place bytes) else 0

-- ---- all fields, and where one isn't whole ----

abbrev pub at : (start size : ℕ) → Field
at start size = record { start = start; size = size }

abbrev pub fields : (bytes : List ℕ) → List Field
fields bytes =
    at 0 1
    ∷ at 1 (slice_index bytes 0)
    ∷ at (first_place bytes) 1
    ∷ at (first_place bytes + 1) (reference_size bytes)
    ∷ at (address_place bytes) 1
    ∷ at (address_place bytes + 1) 1
    ∷ at (address_place bytes + 2) (address_size bytes)
    ∷ at (protocol_place bytes) 1
    ∷ at (protocol_place bytes + 1) 1
    ∷ at (time_place bytes) (time_size bytes)
    ∷ at (length_place bytes) 1
    ∷ at (data_place bytes) (data_size bytes)
    ∷ []

-- fewer octets are left from its start on
abbrev pub is_short : (bytes : List ℕ) → Field → Bool
is_short bytes field = nat_lt (length bytes - field.start) field.size

-- the first field that isn't whole
abbrev pub short_field : (bytes : List ℕ) → Option Field
short_field bytes = find (is_short bytes) (fields bytes)

-- the data are too short for the header
abbrev pub short_header : (bytes : List ℕ) → Option PduFault
short_header bytes = if nat_lt (data_size bytes) (header_size bytes) then Some (Short (data_place bytes)) else None

-- why bytes are no body of a message, if they are none
abbrev pub fault_in : (bytes : List ℕ) → Option PduFault
fault_in bytes =
    if nat_lt (first_place bytes) (length bytes) && nat_le 2 (kind bytes) then Some Kind
    else option_or (option_map (λ field. Short field.start) (short_field bytes)) (short_header bytes)
