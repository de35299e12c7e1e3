-- What a header tells of a message's part.
-- Source: 3GPP TS 23.040, section 9.2.3.24, with its subsections 1 and 8.
use Rattle.std.specs.Prelude.{ℕ, zero, suc, ◌+◌, ◌*◌, ◌==◌, nat_le, nat_lt, true, false, ◌&&◌, List, [], ◌∷◌, length, take, drop, slice_index, Option, Some, None, option_and_then, if◌then◌else◌}
use Rattle.std.specs.Option.{option_or}
use Rattle.sms_pdu.specs.declared.pdu.Part.{Part}

-- a number, a length, and so many octets
pub record Element : Type 0 where
  pub number : ℕ
  pub octets : List ℕ

-- the elements from behind so many bytes on, while they are whole
abbrev pub elements_behind : ℕ → List ℕ → List Element
elements_behind count [] = []
elements_behind (suc count) (byte ∷ bytes) = elements_behind count bytes
elements_behind zero (number ∷ bytes) =
    if nat_lt (slice_index bytes 0) (length bytes)
    then record { number = number; octets = take (slice_index bytes 0) (drop 1 bytes) } ∷ elements_behind (suc (slice_index bytes 0)) bytes
    else []

abbrev pub elements : List ℕ → List Element
elements bytes = elements_behind 0 bytes

-- ---- the part ----

-- a reference of one octet or of two, the total, and the place
abbrev pub narrow_part : (octets : List ℕ) → Part
narrow_part octets = record { reference = slice_index octets 0; wide = false; total = slice_index octets 1; place = slice_index octets 2 }

abbrev pub wide_part : (octets : List ℕ) → Part
wide_part octets = record { reference = slice_index octets 0 * 256 + slice_index octets 1; wide = true; total = slice_index octets 2; place = slice_index octets 3 }

-- what an element tells of a part, if it is one of the two that do
abbrev pub told : (number : ℕ) (octets : List ℕ) → Option Part
told number octets =
    if number == 0 && length octets == 3 then Some (narrow_part octets)
    else if number == 8 && length octets == 4 then Some (wide_part octets)
    else None

-- the first that is told
abbrev pub first_told : List Element → Option Part
first_told [] = None
first_told (element ∷ elements) = option_or (told element.number element.octets) (first_told elements)

-- a part, if its place is from 1 to the total
abbrev pub valid : Part → Option Part
valid part = if nat_le 1 part.place && nat_le part.place part.total then Some part else None

abbrev pub part_in : (bytes : List ℕ) → Option Part
part_in bytes = option_and_then valid (first_told (elements bytes))
