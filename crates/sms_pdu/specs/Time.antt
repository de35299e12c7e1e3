-- The text of a time.
-- Source: 3GPP TS 23.040, section 9.2.3.11: seven octets with two half octets each, the low one first. The last octet has quarters of an hour, and its bit 3 their sign.
use Rattle.std.specs.Prelude.{ℕ, ◌/◌, ◌%◌, ◌==◌, List, [], ◌∷◌, ◌++◌, slice_index, if◌then◌else◌}
use Rattle.sms_pdu.specs.declared.time.TheConstants.{HEX_DIGITS}

-- the hexadecimal digits of an octet's half octets
abbrev pub low : (octet : ℕ) → ℕ
low octet = slice_index HEX_DIGITS (octet % 16)

abbrev pub high : (octet : ℕ) → ℕ
high octet = slice_index HEX_DIGITS (octet / 16)

-- and the character behind them
abbrev pub pair : (octet behind : ℕ) → List ℕ
pair octet behind = low octet ∷ high octet ∷ behind ∷ []

abbrev pub sign : (octet : ℕ) → ℕ
sign octet = if octet / 8 % 2 == 1 then 45 else 43

-- the quarters of an hour, without the sign's bit
abbrev pub zone : (octet : ℕ) → List ℕ
zone octet = sign octet ∷ low (octet % 8) ∷ high octet ∷ []

-- the year, the month, the day, the hour, the minute and the second, with `-`, a blank and `:` behind them
abbrev pub time_text : (octets : List ℕ) → List ℕ
time_text octets =
    pair (slice_index octets 0) 45 ++ pair (slice_index octets 1) 45 ++ pair (slice_index octets 2) 32
    ++ pair (slice_index octets 3) 58 ++ pair (slice_index octets 4) 58 ++ pair (slice_index octets 5) 32
    ++ zone (slice_index octets 6)
