-- Bytes of messages as the standards lay them out, and what is read of them.
-- Source: 3GPP TS 23.040, sections 9.1.2.5 (addresses), 9.2.3.3 (validity) and 9.2.3.24 (headers); 3GPP TS 23.038, section 4 (codings).
use Rattle.std.specs.Prelude.{◌≡◌, ℕ, true, false, List, [], ◌∷◌, ◌++◌, map, length, codes, Option, Some, None, Result, Ok, Err, replicate}
use Rattle.kit_bytes.specs.Hex.{hex}
use Rattle.sms_pdu.specs.declared.pdu.Pdu.{Pdu}
use Rattle.sms_pdu.specs.declared.pdu.Part.{Part}
use Rattle.sms_pdu.specs.declared.pdu.Body.{Body}
use Rattle.sms_pdu.specs.declared.pdu.Body.TheVariants.{Written, Raw}
use Rattle.sms_pdu.specs.declared.pdu.PduFault.{PduFault}
use Rattle.sms_pdu.specs.declared.pdu.PduFault.TheVariants.{Short}
use Rattle.sms_pdu.specs.Reading.{pdu}
use Rattle.sms_pdu.specs.Parts.{is_number, messages, parts}
use Rattle.sms_pdu.specs.Examples.{hi, number}

-- ---- what is read, field by field ----

abbrev pub address_of : Result Pdu PduFault → Option (List ℕ)
address_of (Ok read) = Some read.address
address_of (Err fault) = None

abbrev pub body_of : Result Pdu PduFault → Option Body
body_of (Ok read) = Some read.body
body_of (Err fault) = None

abbrev pub part_of : Result Pdu PduFault → Option Part
part_of (Ok read) = read.part
part_of (Err fault) = None

-- ---- addresses ----

-- a DELIVER from an address, whose text is `Hi`
abbrev pub from_address : (address : List ℕ) → List ℕ
from_address address = hex (codes "00 04") ++ address ++ hex (codes "00 00 42 10 20 30 40 50 00 02 C8 34")

pub record AddressesAreRead : Type 0 where
  pub one_letter : address_of (pdu (from_address (hex (codes "02 D0 41")))) ≡ Some (codes "A")
  pub two_letters : address_of (pdu (from_address (hex (codes "04 D0 C2 30")))) ≡ Some (codes "Ba")
  pub three_letters : address_of (pdu (from_address (hex (codes "06 D0 C2 B0 1B")))) ≡ Some (codes "Ban")
  pub four_letters : address_of (pdu (from_address (hex (codes "07 D0 C2 B0 7B 0D")))) ≡ Some (codes "Bank")
  pub five_letters : address_of (pdu (from_address (hex (codes "09 D0 C2 B0 7B 0D 02")))) ≡ Some (codes "Bank ")
  pub six_letters : address_of (pdu (from_address (hex (codes "0B D0 C2 B0 7B 0D 7A 02")))) ≡ Some (codes "Bank O")
  pub seven_letters : address_of (pdu (from_address (hex (codes "0D D0 C2 B0 7B 0D 7A 9A 01")))) ≡ Some (codes "Bank Of")
  pub eight_letters : address_of (pdu (from_address (hex (codes "0E D0 C2 B0 7B 0D 7A 9A CD")))) ≡ Some (codes "Bank Off")
  pub nine_letters : address_of (pdu (from_address (hex (codes "10 D0 C2 B0 7B 0D 7A 9A CD 69")))) ≡ Some (codes "Bank Offi")
  pub ten_letters : address_of (pdu (from_address (hex (codes "12 D0 C2 B0 7B 0D 7A 9A CD E9 31")))) ≡ Some (codes "Bank Offic")
  pub eleven_letters : address_of (pdu (from_address (hex (codes "14 D0 C2 B0 7B 0D 7A 9A CD E9 71 19")))) ≡ Some (codes "Bank Office")
  pub national : address_of (pdu (from_address (hex (codes "04 81 21 43")))) ≡ Some (codes "1234")
  pub other_digits : address_of (pdu (from_address (hex (codes "05 81 BA DC FE")))) ≡ Some (codes "*#abc")
  pub none : address_of (pdu (from_address (hex (codes "00 81")))) ≡ Some []
  -- its count lies
  pub long : pdu (from_address (hex (codes "FF 91"))) ≡ Err (Short 4)

-- ---- validity ----

abbrev pub sent_hi : Pdu
sent_hi = record hi { deliver = false; time = [] }

pub record ValidityIsPassed : Type 0 where
  pub none : pdu (hex (codes "00 01 00 03 91 21 F3 00 00 02 C8 34")) ≡ Ok sent_hi
  pub enhanced : pdu (hex (codes "00 09 00 03 91 21 F3 00 00 01 A7 00 00 00 00 00 02 C8 34")) ≡ Ok sent_hi
  pub relative : pdu (hex (codes "00 11 00 03 91 21 F3 00 00 A7 02 C8 34")) ≡ Ok sent_hi
  pub absolute : pdu (hex (codes "00 19 00 03 91 21 F3 00 00 42 10 20 30 40 50 00 02 C8 34")) ≡ Ok sent_hi
  pub cut_off : pdu (hex (codes "00 19 00 03 91 21 F3 00 00 42 10 20 30 40 50")) ≡ Err (Short 9)

-- ---- codings ----

-- a DELIVER of these data, in a coding
abbrev pub coded_as : (coding : ℕ) (octets : List ℕ) → List ℕ
coded_as coding octets = hex (codes "00 04 03 91 21 F3 00") ++ coding ∷ hex (codes "42 10 20 30 40 50 00") ++ octets

abbrev pub body_in : (coding : ℕ) → Option Body
body_in coding = body_of (pdu (coded_as coding (hex (codes "02 C8 34"))))

pub record CodingsAreRead : Type 0 where
  pub alphabet : map body_in (0x00 ∷ 0x0C ∷ 0x10 ∷ 0x40 ∷ 0x80 ∷ 0xB0 ∷ 0xC0 ∷ 0xD8 ∷ 0xF0 ∷ 0xF3 ∷ []) ≡ replicate 10 (Some (Written (codes "Hi")))
  pub ucs2 : map body_in (0x08 ∷ 0x18 ∷ 0x48 ∷ 0xE0 ∷ 0xE8 ∷ []) ≡ replicate 5 (Some (Written (0xC834 ∷ [])))
  -- of 8 bits, and compressed ones
  pub octets : map body_in (0x04 ∷ 0x14 ∷ 0x44 ∷ 0xF4 ∷ 0xF7 ∷ 0x20 ∷ 0x28 ∷ 0x60 ∷ []) ≡ replicate 8 (Some (Raw (hex (codes "C8 34"))))
  pub odd : body_of (pdu (coded_as 8 (hex (codes "03 00 41 00")))) ≡ Some (Raw (hex (codes "00 41 00")))

-- ---- headers ----

-- a DELIVER with a header, in a coding
abbrev pub headed : (coding : ℕ) (octets : List ℕ) → List ℕ
headed coding octets = hex (codes "00 44 03 91 21 F3 00") ++ coding ∷ hex (codes "42 10 20 30 40 50 00") ++ octets

abbrev pub first_of_two : Part
first_of_two = record { reference = 7; wide = false; total = 2; place = 1 }

-- a message's body is the octet 0x41, and its part is this one
pub record TellsPart (octets : List ℕ) (part : Option Part) : Type 0 where
  pub told : part_of (pdu (headed 4 octets)) ≡ part
  pub body : body_of (pdu (headed 4 octets)) ≡ Some (Raw (0x41 ∷ []))

pub record HeadersAreRead : Type 0 where
  pub among_others : TellsPart (hex (codes "0D 0B 24 01 01 00 03 07 02 01 25 01 02 41")) (Some first_of_two)
  pub wide : TellsPart (hex (codes "08 06 08 04 01 02 03 02 41")) (Some (record { reference = 0x0102; wide = true; total = 3; place = 2 }))
  pub twice : TellsPart (hex (codes "0C 0A 00 03 07 02 01 00 03 09 03 03 41")) (Some first_of_two)
  pub beyond : TellsPart (hex (codes "07 05 00 03 07 02 03 41")) None
  pub no_place : TellsPart (hex (codes "07 05 00 03 07 02 00 41")) None
  pub cut_element : TellsPart (hex (codes "07 05 24 01 01 00 03 41")) None
  pub empty : TellsPart (hex (codes "02 00 41")) None
  -- the text begins with the next code's start
  pub behind_a_bit : body_of (pdu (headed 0 (hex (codes "09 05 00 03 07 02 01 90 69")))) ≡ Some (Written (codes "Hi"))
  pub longer_than_data : pdu (headed 4 (hex (codes "02 20 41"))) ≡ Err (Short 16)

-- ---- texts at the edges of parts, as lengths of their parts ----

-- the letter `a`, the euro sign with its two codes, the letter `ж`, and a face with its two units
abbrev pub letters : ℕ → List ℕ
letters count = replicate count 0x61

abbrev pub other_letters : ℕ → List ℕ
other_letters count = replicate count 0x436

abbrev pub lengths : (text : List ℕ) → List ℕ
lengths text = map length (parts text)

pub record EdgesOfParts : Type 0 where
  pub codes_160 : lengths (letters 158 ++ 0x20AC ∷ []) ≡ 159 ∷ []
  pub codes_161 : lengths (letters 159 ++ 0x20AC ∷ []) ≡ 153 ∷ 7 ∷ []
  pub codes_153 : lengths (letters 151 ++ 0x20AC ∷ letters 10) ≡ 152 ∷ 10 ∷ []
  pub codes_154 : lengths (letters 152 ++ 0x20AC ∷ letters 10) ≡ 152 ∷ 11 ∷ []
  pub three_parts : lengths (letters 307) ≡ 153 ∷ 153 ∷ 1 ∷ []
  pub units_70 : lengths (other_letters 68 ++ 0x1F600 ∷ []) ≡ 69 ∷ []
  pub units_71 : lengths (other_letters 69 ++ 0x1F600 ∷ []) ≡ 67 ∷ 3 ∷ []
  pub units_67 : lengths (other_letters 65 ++ 0x1F600 ∷ other_letters 10) ≡ 66 ∷ 10 ∷ []
  pub units_68 : lengths (other_letters 66 ++ 0x1F600 ∷ other_letters 10) ≡ 66 ∷ 11 ∷ []

-- ---- what is sent, and to whom ----

pub record TextsAreSent : Type 0 where
  pub empty : messages number [] 0 ≡ hex (codes "00 01 00 03 91 21 F3 00 00 00") ∷ []
  pub escape : messages number (0x1B ∷ []) 0 ≡ hex (codes "00 01 00 03 91 21 F3 00 08 02 00 1B") ∷ []
  pub pair : messages (codes "1234") (0x1F600 ∷ []) 0 ≡ hex (codes "00 01 00 04 81 21 43 00 08 04 D8 3D DE 00") ∷ []
  pub long_number : is_number (replicate 20 0x31) ≡ true
  pub longer_number : is_number (replicate 21 0x31) ≡ false
  pub plus_alone : is_number (codes "+") ≡ false
  pub two_plus : is_number (codes "++1") ≡ false
  pub no_number : is_number [] ≡ false
