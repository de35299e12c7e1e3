-- The bodies of the messages that carry a text to a number.
-- Source: 3GPP TS 23.040, sections 9.1.2.5, 9.2.2.2 and 9.2.3.24.1; 3GPP TS 23.038, section 4.
use Rattle.std.specs.Prelude.{◌≡◌, ℕ, ◌+◌, ◌-◌, ◌*◌, ◌/◌, ◌%◌, ◌==◌, ◌<◌, ◌≤◌, nat_lt, nat_le, Bool, true, false, ◌&&◌, IsTrue, List, [], ◌∷◌, ◌++◌, length, map, drop, is_none, Result, Ok, Err, if◌then◌else◌}
use Rattle.std.specs.List.{flat_map, list_all}
use Rattle.std.specs.Char.Escape.{encode_utf16}
use Rattle.gsm_text.specs.Alphabet.{char_codes, codes_of, first_outside}
use Rattle.gsm_text.specs.Packing.{pack}
use Rattle.sms_pdu.specs.Reading.{codes_behind}
use Rattle.sms_pdu.specs.declared.parts.SubmitFault.{SubmitFault}
use Rattle.sms_pdu.specs.declared.parts.SubmitFault.TheVariants.{Number, TooLong, OutOfMemory}

-- ---- the number ----

-- it is an international one, behind a plus
abbrev pub is_international : (number : List ℕ) → Bool
is_international [] = false
is_international (char ∷ number) = char == 43

abbrev pub digits_of : (number : List ℕ) → List ℕ
digits_of number = if is_international number then drop 1 number else number

abbrev pub is_digit : ℕ → Bool
is_digit char = nat_le 48 char && nat_le char 57

-- 1 to 20 digits, with at most one plus before them
abbrev pub is_number : (number : List ℕ) → Bool
is_number number = list_all is_digit (digits_of number) && nat_le 1 (length (digits_of number)) && nat_le (length (digits_of number)) 20

-- the low half octet first; a half octet 15 fills
abbrev pub semi_octets : (halves : List ℕ) → List ℕ
semi_octets [] = []
semi_octets (low ∷ []) = (low + 16 * 15) ∷ []
semi_octets (low ∷ high ∷ halves) = (low + 16 * high) ∷ semi_octets halves

abbrev pub number_kind : (number : List ℕ) → ℕ
number_kind number = if is_international number then 0x91 else 0x81

-- the half octet of a digit
abbrev pub half : (digit : ℕ) → ℕ
half digit = (digit - 48) % 16

abbrev pub address : (number : List ℕ) → List ℕ
address number = length (digits_of number) ∷ number_kind number ∷ semi_octets (map half (digits_of number))

-- ---- the parts of a text ----

-- the codes of a character, or its units of UTF-16
abbrev pub units : (coded : Bool) → ℕ → List ℕ
units true char = char_codes char
units false char = encode_utf16 char

abbrev pub units_of : (coded : Bool) (text : List ℕ) → List ℕ
units_of coded text = flat_map (units coded) text

abbrev pub fits : (coded : Bool) (most : ℕ) (text : List ℕ) → Bool
fits coded most text = nat_le (length (units_of coded text)) most

-- a text in pieces, the first of them begun by these characters: each has as many characters as there is room for
abbrev pub pieces_from : (coded : Bool) (most : ℕ) (begun text : List ℕ) → List (List ℕ)
pieces_from coded most begun [] = begun ∷ []
pieces_from coded most begun (char ∷ text) =
    if fits coded most (begun ++ char ∷ [])
    then pieces_from coded most (begun ++ char ∷ []) text
    else begun ∷ pieces_from coded most (char ∷ []) text

abbrev pub pieces : (coded : Bool) (most : ℕ) (text : List ℕ) → List (List ℕ)
pieces coded most text = pieces_from coded most [] text

-- all characters of the text have codes
abbrev pub is_coded : (text : List ℕ) → Bool
is_coded text = is_none (first_outside text)

-- how many codes or units there is room for in one part alone, and in one of several
abbrev pub alone : (coded : Bool) → ℕ
alone coded = if coded then 160 else 70

abbrev pub among : (coded : Bool) → ℕ
among coded = if coded then 153 else 67

-- in each part of a text: it is one part alone, if there is room for all
abbrev pub most_of : (coded : Bool) (text : List ℕ) → ℕ
most_of coded text = if fits coded (alone coded) text then alone coded else among coded

abbrev pub parts : (text : List ℕ) → List (List ℕ)
parts text = pieces (is_coded text) (most_of (is_coded text) text) text

-- ---- a part's message ----

-- a unit of UTF-16, the high octet first
abbrev pub big_endian : (unit : ℕ) → List ℕ
big_endian unit = unit / 256 ∷ unit % 256 ∷ []

abbrev pub ucs2 : (text : List ℕ) → List ℕ
ucs2 text = flat_map big_endian (units_of false text)

-- what is before the text of one part among several: a header with one element
abbrev pub header : (reference total place : ℕ) → List ℕ
header reference total place = if nat_lt 1 total then 5 ∷ 0 ∷ 3 ∷ reference ∷ total ∷ place ∷ [] else []

-- the bits between a header and the next code
abbrev pub fill_behind : (header : ℕ) → ℕ
fill_behind header = 7 * codes_behind header - 8 * header

-- the length of user data, and the data: codes are counted from the header's start
abbrev pub coded_data : (header piece : List ℕ) → List ℕ
coded_data header piece = (codes_behind (length header) + length (codes_of piece)) ∷ header ++ pack (codes_of piece) (fill_behind (length header))

abbrev pub ucs2_data : (header piece : List ℕ) → List ℕ
ucs2_data header piece = (length header + length (ucs2 piece)) ∷ header ++ ucs2 piece

abbrev pub data_of : (coded : Bool) (header piece : List ℕ) → List ℕ
data_of coded header piece = if coded then coded_data header piece else ucs2_data header piece

-- the octets up to the coding: no service centre, a SUBMIT, with a header where there are several parts, and its reference
abbrev pub front : (number : List ℕ) (coded : Bool) (total : ℕ) → List ℕ
front number coded total = 0 ∷ (if nat_lt 1 total then 0x41 else 0x01) ∷ 0 ∷ address number ++ 0 ∷ (if coded then 0 else 8) ∷ []

-- the messages of pieces, the first of them at this place
abbrev pub messages_from : (front : List ℕ) (coded : Bool) (reference total place : ℕ) (pieces : List (List ℕ)) → List (List ℕ)
messages_from front coded reference total place [] = []
messages_from front coded reference total place (piece ∷ pieces) =
    (front ++ data_of coded (header reference total place) piece) ∷ messages_from front coded reference total (place + 1) pieces

abbrev pub messages : (number text : List ℕ) (reference : ℕ) → List (List ℕ)
messages number text reference =
    messages_from (front number (is_coded text) (length (parts text))) (is_coded text) reference (length (parts text)) 1 (parts text)

-- messages are made of it: it is a number, and the text takes at most 255 parts
unfoldable pub can_be_sent : (number text : List ℕ) → Bool
can_be_sent number text = is_number number && nat_le (length (parts text)) 255

abbrev pub MakesMessages : (number text : List ℕ) (reference : ℕ) → Result (List (List ℕ)) SubmitFault → Type 0
MakesMessages number text reference (Ok list) = IsTrue (is_number number) × (length (parts text) ≤ 255) × (list ≡ messages number text reference)
MakesMessages number text reference (Err Number) = is_number number ≡ false
MakesMessages number text reference (Err TooLong) = IsTrue (is_number number) × (255 < length (parts text))
MakesMessages number text reference (Err OutOfMemory) = Unit {0}
