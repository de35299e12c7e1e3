-- The message that bytes are.
-- Source: 3GPP TS 23.040, sections 9.2.2.1, 9.2.2.2 and 9.2.3.24.
use Rattle.std.specs.Prelude.{◌≡◌, ℕ, ◌+◌, ◌-◌, ◌*◌, ◌/◌, not, List, [], ◌∷◌, take, drop, slice_index, Option, Some, None, Result, Ok, Err, if◌then◌else◌}
use Rattle.kit_bytes.specs.Utf16.{is_utf16, utf16_text}
use Rattle.gsm_text.specs.Alphabet.{chars_of}
use Rattle.gsm_text.specs.Packing.{unpack}
use Rattle.sms_pdu.specs.declared.pdu.Pdu.{Pdu}
use Rattle.sms_pdu.specs.declared.pdu.Part.{Part}
use Rattle.sms_pdu.specs.declared.pdu.Body.{Body}
use Rattle.sms_pdu.specs.declared.pdu.Body.TheVariants.{Written, Raw}
use Rattle.sms_pdu.specs.declared.pdu.PduFault.{PduFault}
use Rattle.sms_pdu.specs.declared.pdu.PduFault.TheVariants.{Kind, Short, OutOfMemory}
use Rattle.sms_pdu.specs.Coding.{has_codes, has_ucs2}
use Rattle.sms_pdu.specs.Fields.{address_count, address_place, address_size, coding, data_count, data_place, data_size, fault_in, header_size, is_submit, time_place}
use Rattle.sms_pdu.specs.Address.{address_text}
use Rattle.sms_pdu.specs.Time.{time_text}
use Rattle.sms_pdu.specs.Header.{part_in}

-- so many bytes from a place on
abbrev pub run : (bytes : List ℕ) (place size : ℕ) → List ℕ
run bytes place size = take size (drop place bytes)

abbrev pub address_in : (bytes : List ℕ) → List ℕ
address_in bytes = address_text (address_count bytes) (slice_index bytes (address_place bytes + 1)) (run bytes (address_place bytes + 2) (address_size bytes))

-- a SUBMIT has none
abbrev pub time_in : (bytes : List ℕ) → List ℕ
time_in bytes = if is_submit bytes then [] else time_text (run bytes (time_place bytes) 7)

-- ---- the user data ----

-- each two bytes in the other order
abbrev pub swapped : List ℕ → List ℕ
swapped [] = []
swapped (byte ∷ []) = byte ∷ []
swapped (high ∷ low ∷ bytes) = low ∷ high ∷ swapped bytes

-- the text begins with the first code that begins behind the header
abbrev pub codes_behind : (header : ℕ) → ℕ
codes_behind header = (8 * header + 6) / 7

-- UTF-16 with the high octet first, and else octets
abbrev pub ucs2_body : (octets : List ℕ) → Body
ucs2_body octets = if is_utf16 (swapped octets) then Written (utf16_text (swapped octets)) else Raw octets

-- user data of so many codes or octets, behind a header
abbrev pub body_text : (coding count header : ℕ) (octets : List ℕ) → Body
body_text coding count header octets =
    if has_codes coding then Written (chars_of (drop (codes_behind header) (unpack octets 0 count)))
    else if has_ucs2 coding then ucs2_body (drop header octets)
    else Raw (drop header octets)

abbrev pub body_in : (bytes : List ℕ) → Body
body_in bytes = body_text (coding bytes) (data_count bytes) (header_size bytes) (run bytes (data_place bytes) (data_size bytes))

-- where there is no header, there are no elements
abbrev pub part_told : (bytes : List ℕ) → Option Part
part_told bytes = part_in (run bytes (data_place bytes + 1) (header_size bytes - 1))

-- ---- the message ----

abbrev pub pdu_of : (bytes : List ℕ) → Pdu
pdu_of bytes = record { deliver = not (is_submit bytes); address = address_in bytes; time = time_in bytes; part = part_told bytes; body = body_in bytes }

abbrev pub pdu : (bytes : List ℕ) → Result Pdu PduFault
pdu bytes = read_by (fault_in bytes)
  where
    read_by : Option PduFault → Result Pdu PduFault
    read_by None = Ok (pdu_of bytes)
    read_by (Some fault) = Err fault

abbrev pub ReadsPdu : (bytes : List ℕ) → Result Pdu PduFault → Type 0
ReadsPdu bytes (Ok read) = pdu bytes ≡ Ok read
ReadsPdu bytes (Err Kind) = pdu bytes ≡ Err Kind
ReadsPdu bytes (Err (Short place)) = pdu bytes ≡ Err (Short place)
ReadsPdu bytes (Err OutOfMemory) = Unit {0}
