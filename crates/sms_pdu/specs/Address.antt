-- The text of an address.
-- Source: 3GPP TS 23.040, section 9.1.2.5: its octets have a half octet for each digit, the low one first.
use Rattle.std.specs.Prelude.{ℕ, ◌*◌, ◌/◌, ◌%◌, ◌==◌, nat_lt, List, [], ◌∷◌, ◌++◌, map, filter, take, codes, slice_index, if◌then◌else◌}
use Rattle.std.specs.List.{flat_map}
use Rattle.sms_pdu.specs.declared.address.TheConstants.{DIGITS}
use Rattle.gsm_text.specs.Alphabet.{chars_of}
use Rattle.gsm_text.specs.Packing.{unpack}

abbrev pub half_octets : List ℕ → List ℕ
half_octets octets = flat_map (λ octet. octet % 16 ∷ octet / 16 ∷ []) octets

-- the character of a half octet below 15
abbrev pub digit : ℕ → ℕ
digit half = slice_index DIGITS half

-- half octets as digits; 15 fills
abbrev pub digits : List ℕ → List ℕ
digits halves = map digit (filter (λ half. nat_lt half 15) halves)

-- what the type of a number is, by bits 6 to 4 of its kind: 5 is a text, and 1 an international number
abbrev pub type_of : (kind : ℕ) → ℕ
type_of kind = kind / 16 % 8

-- an address of so many half octets
abbrev pub address_text : (count kind : ℕ) (octets : List ℕ) → List ℕ
address_text count kind octets =
    if type_of kind == 5 then chars_of (unpack octets 0 (count * 4 / 7))
    else (if type_of kind == 1 then codes "+" else []) ++ digits (take count (half_octets octets))
